-- The events that are left are the same.
use Rattle.bfd_replay.proofs.PlanCommon.{◌≡◌, length, events_left}
use Rattle.bfd_replay.proofs.plan.queues.next_in.Given as goal

abbrev pub invariant-pieces : goal.invariant-pieces
invariant-pieces l = record {
  same : events_left l.left.items l.pieces.items ≡ events_left l.initial.left.items l.initial.pieces.items;
}

abbrev pub decreases-pieces : goal.decreases-pieces
decreases-pieces l = length l.pieces.items
