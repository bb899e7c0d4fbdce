-- The shards so far.
use Rattle.bfd_serve.proofs.RunCommon.{ℕ, ◌<◌, slice_index_or, Shard, IsShard}
use Rattle.bfd_serve.proofs.run.running.keep.Given as goal

abbrev pub invariant-loop-at : goal.invariant-loop-at
invariant-loop-at g l = (k : ℕ) (d : Shard) → k < l.at → IsShard (slice_index_or l.states k d)
