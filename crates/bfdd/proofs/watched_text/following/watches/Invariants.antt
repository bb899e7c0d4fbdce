-- A watch of each shard so far.
use Rattle.std.proofs.Common.{◌≡◌, ◌<◌, ℕ, [], length, Some}
use Rattle.std.specs.Prelude.{slice_get}
use Rattle.bfd_shard.specs.Dealing.{share}
use Rattle.bfd_watch.specs.Watching.{watching}
use Rattle.bfdd.proofs.watched_text.following.watches.Given as goal

abbrev pub invariant-loop-shard : goal.invariant-loop-shard
invariant-loop-shard g l = record {
  long : length l.list.items ≡ l.shard;
  each : (r : ℕ) → r < l.shard → slice_get l.list.items r ≡ Some (watching (share l.shards r l.configs) [] l.limit);
}
