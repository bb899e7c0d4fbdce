use Rattle.bfd_levels.proofs.Common.{◌≡◌, ◌≤◌, ◌+◌, length, room_of, Took, waiting, place, midway, at_midway, loads}
use Rattle.bfd_levels.proofs.Walks.{IsWalk}
use Rattle.bfd_levels.proofs.walk.walk.Given as goal

abbrev pub invariant-loop : goal.invariant-loop
invariant-loop g l = record {
  walk : IsWalk (length l.initial.dues) 1026 l.head l.t l.steps (l.initial.steps + loads (length l.initial.dues)
      (at_midway (length l.initial.dues) l.before l.tick l.level l.initial.dues) l.initial.dues)
      (midway (length l.initial.dues) l.before l.tick l.level) (place (length l.initial.dues) l.tick) l.dues l.nodes l.cur l.counter;
  took : Took l.t l.initial.dues l.dues l.initial.out.items l.out.items;
  room : room_of l.out ≡ room_of l.initial.out;
  spare : waiting l.t l.dues ≤ l.out.spare;
  rises : l.initial.steps ≤ l.steps;
}
