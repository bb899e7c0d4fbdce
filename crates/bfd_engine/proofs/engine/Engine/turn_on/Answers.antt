-- The turn's pass is put back in its place.
use Rattle.bfd_engine.proofs.Common.{◌≡◌, ◌≤◌, ◌+◌, ◌∙◌, ℕ, get_or, Some, Ok, IfOk, Result, slice_get, slice_set, set-set, sym, ap, refl}
use Rattle.bfd_engine.proofs.Common.{subst, get_or_from_slice_get, Answer, ShardEvent, TurnFault, IsTimely, configs_in, room_in, seen_of}
use Rattle.bfd_engine.proofs.Common.{seen_at, Shards, Knows, IsOf, AllThere, base_at, configs_at}
use Rattle.bfd_engine.proofs.Places.{K}
use Rattle.bfd_engine.proofs.Places.{of_set, there_set}
use Rattle.bfd_engine.proofs.Turning.{at_place, call_done, fault_done}
use Rattle.bfd_engine.proofs.engine.Engine.turn_on.Goals as goal

timely_done : (engine : Shards) (k l : Knows) (s : ℕ) (event : ShardEvent) {p : K} (q : K) {r : Result Answer TurnFault} {answer : Answer}
    → slice_get k.1 s ≡ Some (Some p) → p.1.base ≡ Some (base_at engine s)
    → l ≡ (k.0, slice_set k.1 s (Some q), k.2) → p.1.number ≡ k.0 → r ≡ Ok answer
    → IfOk r (λ _. IsTimely (configs_in p.1.base) p.1.number event q.1.seen) → IsTimely (configs_at engine s) k.0 event (seen_at l s)
timely_done engine k l s event {p} q here base is num e all =
    let t = subst (λ x. IfOk x (λ _. IsTimely (configs_in p.1.base) p.1.number event q.1.seen)) e all in
    subst (λ b. IsTimely (configs_in b) k.0 event (seen_at l s)) base (rw (← num) (rw (ap seen_of (at_place k s q here is)) t))

pub turn_with-back-requires : goal.turn_with-back-requires
turn_with-back-requires g c =
    let base = c.requires.of.base_is c.args.shard c.lift-own.result c.lift-own.ensures.pass in
    record {
      of = sym (get_or_from_slice_get c.args.self.now.locks c.args.shard c.lift-own.result.0 c.index.result.now
          (c.requires.of.lock c.args.shard c.lift-own.result c.lift-own.ensures.pass))
          ∙ (ap (λ e. get_or e.locks c.args.shard c.index.result.now) (sym c.self.view_is) ∙ sym c.index.ensures);
      can = rw base c.requires.can;
      room = rw base c.requires.room;
    }

pub returns-in-Ok-clause-timely : goal.returns-in-Ok-clause-timely
returns-in-Ok-clause-timely g c =
    timely_done c.args.self.now c.args.pass.now c.put.new.self c.args.shard c.args.event c.turn_with-back.result.0 c.lift-own.ensures.pass
    (c.requires.of.base_is c.args.shard c.lift-own.result c.lift-own.ensures.pass)
    (rw (c.put.ensures, c.lift-own.ensures.rest, set-set) refl) c.lift-own.ensures.callers.number_is c.in-Ok.is
    c.turn_with-back.ensures.timely

pub returns-in-Ok-clause-spare : goal.returns-in-Ok-clause-spare
returns-in-Ok-clause-spare g c =
    subst (λ b. c.args.outs.now.spare ≤ c.turn_with-back.new.outs.spare + room_in (configs_in b) c.args.event)
    (c.requires.of.base_is c.args.shard c.lift-own.result c.lift-own.ensures.pass)
    c.turn_with-back.ensures.spare

pub returns-in-Err-clause-spare : goal.returns-in-Err-clause-spare
returns-in-Err-clause-spare g c =
    subst (λ b. c.args.outs.now.spare ≤ c.turn_with-back.new.outs.spare + room_in (configs_in b) c.args.event)
    (c.requires.of.base_is c.args.shard c.lift-own.result c.lift-own.ensures.pass)
    c.turn_with-back.ensures.spare

pub returns-in-Ok-clause-room : goal.returns-in-Ok-clause-room
returns-in-Ok-clause-room g c = c.turn_with-back.ensures.outs_room

pub returns-in-Err-clause-room : goal.returns-in-Err-clause-room
returns-in-Err-clause-room g c = c.turn_with-back.ensures.outs_room

pub returns-in-Ok-clause-cost : goal.returns-in-Ok-clause-cost
returns-in-Ok-clause-cost g c = c.turn_with-back.ensures.cost

pub returns-in-Err-clause-cost : goal.returns-in-Err-clause-cost
returns-in-Err-clause-cost g c = c.turn_with-back.ensures.cost

pub returns-in-Ok-clause-of : goal.returns-in-Ok-clause-of
returns-in-Ok-clause-of g c =
    let is : c.put.new.self ≡ (
      c.args.pass.now.0,
      slice_set c.args.pass.now.1 c.args.shard (Some c.turn_with-back.result.0),
      c.args.pass.now.2,
    ) = rw (c.put.ensures, c.lift-own.ensures.rest, set-set) refl in
    subst (IsOf c.args.self.now) (sym (ap (λ k. k.1) is))
    (of_set c.args.self.now c.args.pass.now.1 c.args.shard c.lift-own.result c.turn_with-back.result.0 c.lift-own.ensures.pass
    c.turn_with-back.ensures.of c.turn_with-back.ensures.same.base_is c.requires.of)

pub returns-in-Err-clause-of : goal.returns-in-Err-clause-of
returns-in-Err-clause-of g c =
    let is : c.put.new.self ≡ (
      c.args.pass.now.0,
      slice_set c.args.pass.now.1 c.args.shard (Some c.turn_with-back.result.0),
      c.args.pass.now.2,
    ) = rw (c.put.ensures, c.lift-own.ensures.rest, set-set) refl in
    subst (IsOf c.args.self.now) (sym (ap (λ k. k.1) is))
    (of_set c.args.self.now c.args.pass.now.1 c.args.shard c.lift-own.result c.turn_with-back.result.0 c.lift-own.ensures.pass
    c.turn_with-back.ensures.of c.turn_with-back.ensures.same.base_is c.requires.of)

pub returns-in-Ok-clause-there : goal.returns-in-Ok-clause-there
returns-in-Ok-clause-there g c =
    let is : c.put.new.self ≡ (
      c.args.pass.now.0,
      slice_set c.args.pass.now.1 c.args.shard (Some c.turn_with-back.result.0),
      c.args.pass.now.2,
    ) = rw (c.put.ensures, c.lift-own.ensures.rest, set-set) refl in
    subst AllThere (sym (ap (λ k. k.1) is)) (there_set c.args.pass.now.1 c.args.shard c.turn_with-back.result.0 c.requires.there)

pub returns-in-Err-clause-there : goal.returns-in-Err-clause-there
returns-in-Err-clause-there g c =
    let is : c.put.new.self ≡ (
      c.args.pass.now.0,
      slice_set c.args.pass.now.1 c.args.shard (Some c.turn_with-back.result.0),
      c.args.pass.now.2,
    ) = rw (c.put.ensures, c.lift-own.ensures.rest, set-set) refl in
    subst AllThere (sym (ap (λ k. k.1) is)) (there_set c.args.pass.now.1 c.args.shard c.turn_with-back.result.0 c.requires.there)

pub returns-in-Ok-clause-call : goal.returns-in-Ok-clause-call
returns-in-Ok-clause-call g c = call_done c.args.self.now c.args.pass.now c.args.shard c.args.event c.turn_with-back.result.0
    c.args.outs.now.items c.turn_with-back.new.outs.items c.lift-own.ensures.pass
    (c.requires.of.base_is c.args.shard c.lift-own.result c.lift-own.ensures.pass)
    (rw (c.put.ensures, c.lift-own.ensures.rest, set-set) refl) c.lift-own.ensures.callers.number_is c.turn_with-back.ensures.same
    c.in-Ok.is c.turn_with-back.ensures.turned

pub returns-in-Err-clause-call : goal.returns-in-Err-clause-call
returns-in-Err-clause-call g c = fault_done c.args.self.now c.args.pass.now c.args.shard c.turn_with-back.result.0 c.args.outs.now
    c.turn_with-back.new.outs c.lift-own.ensures.pass (c.requires.of.base_is c.args.shard c.lift-own.result c.lift-own.ensures.pass)
    (rw (c.put.ensures, c.lift-own.ensures.rest, set-set) refl) c.lift-own.ensures.callers.number_is c.turn_with-back.ensures.same
    c.in-Err.is c.turn_with-back.ensures.fault
    c.turn_with-back.ensures.unreported c.fault_at.ensures
