use Rattle.bfd_levels.proofs.Common.{◌+◌, ◌*◌, length, at_tick, at_jump, loads}
use Rattle.bfd_levels.proofs.Paid.{IsPaid}
use Rattle.bfd_levels.proofs.jump.settle_all.Given as goal

abbrev pub invariant-loop-id : goal.invariant-loop-id
invariant-loop-id g l = record {
  paid : IsPaid (length l.dues) l.steps (l.initial.steps + 2 * l.id + loads (length l.dues) (at_tick (length l.dues) l.now l.dues) l.dues)
      (at_jump (length l.dues) l.now l.t l.id l.dues) l.dues l.nodes;
}
