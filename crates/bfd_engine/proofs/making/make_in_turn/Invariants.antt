-- The shards so far.
use Rattle.bfd_engine.proofs.Common.{◌≡◌, ◌<◌, ℕ, length, get_or, share, Shard, IsNewState}
use Rattle.bfd_engine.proofs.making.make_in_turn.Given as goal

abbrev pub invariant-loop-shard : goal.invariant-loop-shard
invariant-loop-shard g l = record {
  long : length l.states.items ≡ l.shard;
  each : (r : ℕ) (d : Shard) → r < l.shard → IsNewState (share l.count r l.configs) (get_or l.states.items r d);
}
