-- Room for any call's outputs.
use Rattle.std.proofs.Common.{◌≡◌, ◌≤◌, ◌+◌, ◌*◌, ℕ, length, arith}
use Rattle.bfd_engine.specs.Engines.{Shards, configs_at}
use Rattle.bfd_shard.proofs.Sharing.{few_share}

pub room_enough : (engine : Shards) (s : ℕ) → length engine.configs ≡ 4 → 5 * length (configs_at engine s) + 5 ≤ 25
room_enough engine s e = omega (arith, few_share (length engine.locks) s engine.configs, e)
