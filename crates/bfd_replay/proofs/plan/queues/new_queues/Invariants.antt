use Rattle.bfd_replay.proofs.PlanCommon.{◌≡◌, ℕ, [], length, get_or}
use Rattle.bfd_replay.proofs.plan.queues.new_queues.Given as goal

abbrev pub invariant-loop : goal.invariant-loop
invariant-loop l = record {
  long : length l.queues.items ≡ l.counter;
  none : (r : ℕ) → get_or l.queues.items r [] ≡ [];
}
