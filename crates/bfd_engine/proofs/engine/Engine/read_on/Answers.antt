-- The turn's pass is put back in its place.
use Rattle.bfd_engine.proofs.Common.{◌∙◌, IfOk, get_or, sym, ap, subst, arith, get_or_from_slice_get, seen_of, met_word_of, configs_in}
use Rattle.bfd_engine.proofs.Common.{IsOf, AllThere, AreGiven}
use Rattle.bfd_engine.proofs.Places.{put_back, of_set, there_set}
use Rattle.bfd_engine.proofs.Turning.{at_place}
use Rattle.bfd_engine.proofs.Copies.{has_read, unread_at}
use Rattle.bfd_engine.proofs.engine.Engine.read_on.Goals as goal

pub lift-own-requires : goal.lift-own-requires
lift-own-requires g c = c.requires.there.at c.args.shard (omega (arith, c.requires.of.long, c.requires.shard))

pub read_with-back-requires-clause-of : goal.read_with-back-requires-clause-of
read_with-back-requires-clause-of g c =
    sym (get_or_from_slice_get c.args.self.now.locks c.args.shard c.lift-own.result.0 c.index.result.now
    (c.requires.of.lock c.args.shard c.lift-own.result c.lift-own.ensures.pass))
    ∙ (ap (λ e. get_or e.locks c.args.shard c.index.result.now) (sym c.self.view_is) ∙ sym c.index.ensures)

pub returns-clause-list : goal.returns-clause-list
returns-clause-list g c =
    rw (ap seen_of (at_place c.args.pass.now c.args.shard c.read_with-back.result.0 c.lift-own.ensures.pass
    (put_back c.args.pass.now c.lift-own.new.self c.put.new.self c.args.shard c.read_with-back.result.0 c.lift-own.ensures.rest
    c.put.ensures))) c.read_with-back.ensures.list

pub returns-clause-given : goal.returns-clause-given
returns-clause-given g c = subst (λ b. IfOk c.read_with-back.result.1 (λ list. AreGiven (configs_in b) list.items))
    (c.requires.of.base_is c.args.shard c.lift-own.result c.lift-own.ensures.pass) c.read_with-back.ensures.given

pub returns-clause-fault : goal.returns-clause-fault
returns-clause-fault g c = unread_at c.read_with-back.result.1 c.args.shard c.put.new.self c.read_with-back.result.0.1
    (ap met_word_of (at_place c.args.pass.now c.args.shard c.read_with-back.result.0 c.lift-own.ensures.pass (put_back c.args.pass.now
    c.lift-own.new.self c.put.new.self c.args.shard c.read_with-back.result.0 c.lift-own.ensures.rest c.put.ensures)))
    c.read_with-back.ensures.fault

pub returns-clause-of : goal.returns-clause-of
returns-clause-of g c =
    subst (IsOf c.args.self.now) (sym (ap (λ k. k.1) (put_back c.args.pass.now c.lift-own.new.self c.put.new.self c.args.shard
    c.read_with-back.result.0 c.lift-own.ensures.rest c.put.ensures)))
    (of_set c.args.self.now c.args.pass.now.1 c.args.shard c.lift-own.result c.read_with-back.result.0 c.lift-own.ensures.pass
    c.read_with-back.ensures.of c.read_with-back.ensures.same.base_is c.requires.of)

pub returns-clause-there : goal.returns-clause-there
returns-clause-there g c =
    subst AllThere (sym (ap (λ k. k.1) (put_back c.args.pass.now c.lift-own.new.self c.put.new.self c.args.shard c.read_with-back.result.0
    c.lift-own.ensures.rest c.put.ensures))) (there_set c.args.pass.now.1 c.args.shard c.read_with-back.result.0 c.requires.there)

pub returns-clause-read : goal.returns-clause-read
returns-clause-read g c = has_read c.args.pass.now c.args.shard c.read_with-back.result.0 c.lift-own.ensures.pass
    (put_back c.args.pass.now c.lift-own.new.self c.put.new.self c.args.shard c.read_with-back.result.0 c.lift-own.ensures.rest
    c.put.ensures) c.lift-own.ensures.callers.number_is c.read_with-back.ensures.same c.read_with-back.ensures.looked
