use Rattle.bfd_replay.proofs.PlanCommon.{◌≡◌, ℕ, [], length, map, get_or}
use Rattle.bfd_replay.proofs.plan.plan.empty_queues.Given as goal

abbrev pub invariant-loop : goal.invariant-loop
invariant-loop l = record {
  long : length l.queues.items ≡ l.counter;
  none : (r : ℕ) → get_or (map (λ q. q.items) l.queues.items) r [] ≡ [];
}
