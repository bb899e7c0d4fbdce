-- An event of the table's session at a place is one of its shard.
use Rattle.bfd_engine.proofs.Common.{◌≡◌, ◌<◌, ◌/◌, ◌%◌, ℕ, length, Event, IsTaken, Shards, configs_at, there}

-- an event that the session at a place accepts may happen to its shard
pub dealt_event : (engine : Shards) (k n : ℕ) (event : Event) → n ≡ length engine.locks → 0 < n → IsTaken engine.configs k event
    → IsTaken (configs_at engine (k % n)) (k / n) event
dealt_event engine k n event is some h = record {
  config = h.config;
  there = cc (there n k engine.configs some);
  takes = h.takes;
}
