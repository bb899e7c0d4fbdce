-- The first queues have the tick.
use Rattle.bfd_replay.proofs.ReportCommon.{ℕ, ◌≡◌, ◌<◌, ◌≤◌, ◌++◌, ◌∷◌, [], length, map, get_or, Tick}
use Rattle.bfd_replay.proofs.report.queue.deal_tick.Given as goal

abbrev pub invariant-loop-shard : goal.invariant-loop-shard
invariant-loop-shard l = record {
  long : length l.queues.items ≡ length l.fn.queues.items;
  reported : (r : ℕ) → r < l.shard → get_or (map (λ q. q.items) l.queues.items) r []
      ≡ get_or (map (λ q. q.items) l.fn.queues.items) r [] ++ record { number = l.number; event = Tick l.tick } ∷ [];
  others : (r : ℕ) → l.shard ≤ r → get_or (map (λ q. q.items) l.queues.items) r [] ≡ get_or (map (λ q. q.items) l.fn.queues.items) r [];
}
