use Rattle.bfd_levels.proofs.Common.{◌≡◌, ◌≤◌, ◌+◌, length, room_of, Took, waiting, at_tick, loads}
use Rattle.bfd_levels.proofs.Paid.{IsPaid}
use Rattle.bfd_levels.proofs.Ticks.{reached_till}
use Rattle.bfd_levels.proofs.tick.forward.Given as goal

-- the lists that the clock has reached since `now` are paid for
abbrev pub invariant-loop-before : goal.invariant-loop-before
invariant-loop-before g l = record {
  paid : IsPaid (length l.initial.dues) (l.steps + reached_till l.now)
      (l.initial.steps + loads (length l.initial.dues) (at_tick (length l.initial.dues) l.now l.initial.dues) l.initial.dues + reached_till
      l.before)
      (at_tick (length l.initial.dues) l.before l.dues) l.dues l.nodes;
  took : Took l.t l.initial.dues l.dues l.initial.out.items l.out.items;
  room : room_of l.out ≡ room_of l.initial.out;
  spare : waiting l.t l.dues ≤ l.out.spare;
}
