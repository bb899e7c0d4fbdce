-- What was put together so far; the plans that are left stand in reverse.
use Rattle.bfd_replay.proofs.PlanCommon.{length, reverse}
use Rattle.bfd_replay.proofs.Parting.{IsPut}
use Rattle.bfd_replay.proofs.plan.plan.planned.Given as goal

abbrev pub invariant-runs : goal.invariant-runs
invariant-runs g l = record {
  put : IsPut l.fn.roster l.fn.pool.items l.fn.events.items l.shards l.queues.items l.apart (reverse l.left.items);
}

abbrev pub decreases-runs : goal.decreases-runs
decreases-runs g l = length l.left.items
