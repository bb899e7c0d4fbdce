-- What was planned so far; the lines that are left stand in reverse.
use Rattle.bfd_replay.proofs.PlanCommon.{length, map, reverse}
use Rattle.bfd_replay.proofs.Planning.{IsOnPlan}
use Rattle.bfd_replay.proofs.plan.plan.plan_run.Given as goal

abbrev pub invariant-lines : goal.invariant-lines
invariant-lines l = record {
  planned : IsOnPlan l.table.configs l.table.pool l.fn.run.lines.items (reverse l.left.items) l.shards l.fn.run.first l.number
      (map (λ q. q.items) l.queues.items) l.apart;
}

abbrev pub decreases-lines : goal.decreases-lines
decreases-lines l = length l.left.items
