-- With what is left, the part is the shard's share.
use Rattle.std.proofs.Common.{◌≡◌, ◌≤◌, ◌+◌, ◌-◌, ◌++◌, length, drop}
use Rattle.bfd_shard.specs.Dealing.{share}
use Rattle.bfdd.proofs.watched_text.following.dealt_to.Given as goal

abbrev pub invariant-loop-at : goal.invariant-loop-at
invariant-loop-at l = record {
  whole : l.part.items ++ share l.shards 0 (drop l.at l.configs) ≡ share l.shards l.shard l.configs;
  few : l.at ≤ length l.configs + l.shards;
}

abbrev pub decreases-loop-at : goal.decreases-loop-at
decreases-loop-at l = length l.configs - l.at
