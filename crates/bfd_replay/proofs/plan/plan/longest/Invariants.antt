-- No queue so far is longer, and no less would do.
use Rattle.bfd_replay.proofs.PlanCommon.{◌≤◌, ◌<◌, ℕ, [], length, get_or}
use Rattle.bfd_replay.proofs.plan.plan.longest.Given as goal

abbrev pub invariant-loop-shard : goal.invariant-loop-shard
invariant-loop-shard l = record {
  all : (s : ℕ) → s < l.shard → length (get_or l.queues.items s []) ≤ l.most;
  least : (most : ℕ) → ((s : ℕ) → length (get_or l.queues.items s []) ≤ most) → l.most ≤ most;
}
