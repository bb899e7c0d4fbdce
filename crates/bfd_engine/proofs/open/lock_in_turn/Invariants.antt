-- The locks so far are of their shards, and each of the rest may be put behind one.
use Rattle.bfd_engine.proofs.Common.{◌≡◌, ◌++◌, map, AllByRecursion}
use Rattle.bfd_engine.specs.Opening.{MayLock}
use Rattle.bfd_engine.proofs.Opening.{AreMade}
use Rattle.bfd_engine.proofs.States.{of}
use Rattle.bfd_engine.proofs.open.lock_in_turn.Given as goal

abbrev pub invariant-loop-state : goal.invariant-loop-state
invariant-loop-state g l = record {
  can : (goal.iterator-loop-state g).can_next l.state-iterator;
  finite : (goal.iterator-loop-state g).is_finite l.state-iterator;
  all : l.yielded ++ l.state-iterator.rest.items ≡ l.fn.states.items;
  may : AllByRecursion (MayLock l.limit) l.state-iterator.rest.items;
  made : AreMade l.limit (map of l.yielded) l.shards.items;
}
