-- One more piece behind one shard's queue.
use Rattle.bfd_replay.proofs.PlanCommon.{ap, arith, length, map}
use Rattle.bfd_replay.proofs.Parting.{behind_next}
use Rattle.bfd_replay.proofs.plan.queues.push_pieces.Goals as goal

pub queues-preserved : goal.queues-preserved
queues-preserved c = record {
  long = omega (arith, ap length c.in-Some.ensures.first, ap length c.in-Some-next_of.ensures.first, c.queues.invariant.long);
  done = behind_next c.queues.done.items c.in-Some.ensures.first (ap (map (λ piece. piece.items)) c.in-Some-next_of.ensures.first)
      c.in_ok-with.ensures c.in_ok-push.ensures.items c.queues.invariant.done;
}
