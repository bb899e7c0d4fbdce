-- The turn is the pass's, or the pass is put back in its place.
use Rattle.bfd_engine.proofs.Common.{◌∙◌, get_or, sym, ap, subst, get_or_from_slice_get, IsOf, AllThere}
use Rattle.bfd_engine.proofs.Places.{put_back, of_set, none_set, there_set}
use Rattle.bfd_engine.proofs.Lending.{still, has_taken, busy_is, spent_is, was_busy, was_spent}
use Rattle.bfd_engine.proofs.engine.Engine.try_hold.Goals as goal

pub lift-own-requires : goal.lift-own-requires
lift-own-requires g c = c.requires.here

pub try_turn-requires : goal.try_turn-requires
try_turn-requires g c =
    sym (get_or_from_slice_get c.args.self.now.locks c.args.shard c.lift-own.result.0 c.index.result.now
    (c.requires.of.lock c.args.shard c.lift-own.result c.lift-own.ensures.pass))
    ∙ (ap (λ e. get_or e.locks c.args.shard c.index.result.now) (sym c.self.view_is) ∙ sym c.index.ensures)

pub put-requires-clause-callers : goal.put-requires-clause-callers
put-requires-clause-callers g c =
    let e = busy_is c.index.result.now c.lift-own.result.1 c.in-Err-Busy.field-0-is c.in-Err-Busy.ensures in
    rw c.lift-own.ensures.rest (still c.in-Err-Busy.back.1 (cc) (cc) c.lift-own.ensures.callers)

pub put-requires-in-Err-Spent-clause-callers : goal.put-requires-in-Err-Spent-clause-callers
put-requires-in-Err-Spent-clause-callers g c =
    let e = spent_is c.index.result.now c.lift-own.result.1 c.in-Err-Spent.field-0-is c.in-Err-Spent.ensures in
    rw c.lift-own.ensures.rest (still c.in-Err-Spent.back.1 (cc) (cc) c.lift-own.ensures.callers)

pub returns-in-Ok-clause-of : goal.returns-in-Ok-clause-of
returns-in-Ok-clause-of g c = subst (IsOf c.args.self.now) (sym (ap (λ k. k.1) c.lift-own.ensures.rest))
    (none_set c.args.self.now c.args.pass.now.1 c.args.shard c.lift-own.result c.lift-own.ensures.pass c.requires.of)

pub returns-in-Ok-clause-hold : goal.returns-in-Ok-clause-hold
returns-in-Ok-clause-hold g c =
    let lock =
    sym (get_or_from_slice_get c.args.self.now.locks c.args.shard c.lift-own.result.0 c.index.result.now
    (c.requires.of.lock c.args.shard c.lift-own.result c.lift-own.ensures.pass))
    ∙ (ap (λ e. get_or e.locks c.args.shard c.index.result.now) (sym c.self.view_is) ∙ sym c.index.ensures) in
    has_taken c.args.shard c.requires.of
    c.lift-own.ensures.pass c.lift-own.ensures.callers c.lift-own.ensures.rest (cc (c.in-Ok.ensures.0)) c.in-Ok.ensures.1.same
    c.in-Ok.ensures.1.later c.in-Ok.ensures.1.adds

pub returns-in-Err-Busy-clause-of : goal.returns-in-Err-Busy-clause-of
returns-in-Err-Busy-clause-of g c =
    let e = busy_is c.index.result.now c.lift-own.result.1 c.in-Err-Busy.field-0-is c.in-Err-Busy.ensures in
    let lock =
    sym (get_or_from_slice_get c.args.self.now.locks c.args.shard c.lift-own.result.0 c.index.result.now
    (c.requires.of.lock c.args.shard c.lift-own.result c.lift-own.ensures.pass))
    ∙ (ap (λ e. get_or e.locks c.args.shard c.index.result.now) (sym c.self.view_is) ∙ sym c.index.ensures) in
    subst (IsOf c.args.self.now) (sym (ap (λ k. k.1)
    (put_back c.args.pass.now c.lift-own.new.self c.put.new.self c.args.shard c.in-Err-Busy.back c.lift-own.ensures.rest c.put.ensures)))
    (of_set c.args.self.now c.args.pass.now.1 c.args.shard c.lift-own.result c.in-Err-Busy.back c.lift-own.ensures.pass (cc) (cc)
    c.requires.of)

pub returns-in-Err-Busy-clause-kept : goal.returns-in-Err-Busy-clause-kept
returns-in-Err-Busy-clause-kept g c =
    let e = busy_is c.index.result.now c.lift-own.result.1 c.in-Err-Busy.field-0-is c.in-Err-Busy.ensures in
    was_busy c.args.pass.now c.args.shard c.in-Err-Busy.back c.lift-own.ensures.pass
    (put_back c.args.pass.now c.lift-own.new.self c.put.new.self c.args.shard c.in-Err-Busy.back c.lift-own.ensures.rest c.put.ensures)
    e.0.1 e.1

pub returns-in-Err-Spent-clause-of : goal.returns-in-Err-Spent-clause-of
returns-in-Err-Spent-clause-of g c =
    let e = spent_is c.index.result.now c.lift-own.result.1 c.in-Err-Spent.field-0-is c.in-Err-Spent.ensures in
    let lock =
    sym (get_or_from_slice_get c.args.self.now.locks c.args.shard c.lift-own.result.0 c.index.result.now
    (c.requires.of.lock c.args.shard c.lift-own.result c.lift-own.ensures.pass))
    ∙ (ap (λ e. get_or e.locks c.args.shard c.index.result.now) (sym c.self.view_is) ∙ sym c.index.ensures) in
    subst (IsOf c.args.self.now) (sym (ap (λ k. k.1) (put_back c.args.pass.now c.lift-own.new.self c.put-in-Err-Spent.new.self c.args.shard
    c.in-Err-Spent.back c.lift-own.ensures.rest c.put-in-Err-Spent.ensures)))
    (of_set c.args.self.now c.args.pass.now.1 c.args.shard c.lift-own.result c.in-Err-Spent.back c.lift-own.ensures.pass (cc) (cc)
    c.requires.of)

pub returns-in-Err-Spent-clause-kept : goal.returns-in-Err-Spent-clause-kept
returns-in-Err-Spent-clause-kept g c =
    let e = spent_is c.index.result.now c.lift-own.result.1 c.in-Err-Spent.field-0-is c.in-Err-Spent.ensures in
    was_spent c.args.pass.now c.args.shard c.in-Err-Spent.back c.lift-own.ensures.pass (put_back c.args.pass.now c.lift-own.new.self
    c.put-in-Err-Spent.new.self c.args.shard c.in-Err-Spent.back c.lift-own.ensures.rest c.put-in-Err-Spent.ensures)
    e.0.1 e.1

pub returns-in-Err-Busy-clause-there : goal.returns-in-Err-Busy-clause-there
returns-in-Err-Busy-clause-there g c =
    λ all. subst AllThere (sym (ap (λ k. k.1) (put_back c.args.pass.now c.lift-own.new.self c.put.new.self c.args.shard c.in-Err-Busy.back
    c.lift-own.ensures.rest c.put.ensures))) (there_set c.args.pass.now.1 c.args.shard c.in-Err-Busy.back all)

pub returns-in-Err-Spent-clause-there : goal.returns-in-Err-Spent-clause-there
returns-in-Err-Spent-clause-there g c =
    λ all. subst AllThere (sym (ap (λ k. k.1) (put_back c.args.pass.now c.lift-own.new.self c.put-in-Err-Spent.new.self c.args.shard
    c.in-Err-Spent.back c.lift-own.ensures.rest c.put-in-Err-Spent.ensures)))
    (there_set c.args.pass.now.1 c.args.shard c.in-Err-Spent.back all)
