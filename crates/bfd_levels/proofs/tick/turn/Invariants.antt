use Rattle.bfd_levels.proofs.Common.{◌≡◌, ◌≤◌, ◌+◌, length, room_of, Took, waiting, at_tick, at_midway, loads}
use Rattle.bfd_levels.proofs.Paid.{IsPaid}
use Rattle.bfd_levels.proofs.tick.turn.Given as goal

abbrev pub invariant-loop-level : goal.invariant-loop-level
invariant-loop-level g l = record {
  paid : IsPaid (length l.initial.dues) l.steps (l.initial.steps + l.level + loads (length l.initial.dues)
      (at_tick (length l.initial.dues) l.before l.initial.dues) l.initial.dues)
      (at_midway (length l.initial.dues) l.before l.tick l.level l.dues) l.dues l.nodes;
  took : Took l.t l.initial.dues l.dues l.initial.out.items l.out.items;
  room : room_of l.out ≡ room_of l.initial.out;
  spare : waiting l.t l.dues ≤ l.out.spare;
}
