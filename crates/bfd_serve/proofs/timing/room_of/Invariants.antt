use Rattle.bfd_serve.proofs.Common.{◌≡◌, ◌⊎◌, ◌<◌, ◌≤◌, length, configs_at, ℕ}
use Rattle.bfd_serve.proofs.timing.room_of.Given as goal

abbrev pub invariant-loop-shard : goal.invariant-loop-shard
invariant-loop-shard g l = record {
  some : 0 < l.most;
  each : (shard : ℕ) → shard < l.shard → length (configs_at l.engine shard) ≤ l.most;
  from : (l.most ≡ 1) ⊎ ((shard : ℕ) × (shard < l.shard) × (l.most ≡ length (configs_at l.engine shard)));
}
