-- With those of what is left, the sessions are those of the shard's share.
use Rattle.bfd_shard.proofs.Common.{◌≡◌, ◌≤◌, ◌+◌, ◌-◌, ◌++◌, length, map, drop, AllByRecursion, IsSound, started}
use Rattle.bfd_shard.specs.Dealing.{share}
use Rattle.bfd_shard.proofs.start.share_of.Given as goal

abbrev pub invariant-loop-at : goal.invariant-loop-at
invariant-loop-at l = record {
  whole : l.sessions.items ++ map started (share l.shards 0 (drop l.at l.configs)) ≡ map started (share l.shards l.shard l.configs);
  few : l.at ≤ length l.configs + l.shards;
  sound : AllByRecursion IsSound l.sessions.items;
}

abbrev pub decreases-loop-at : goal.decreases-loop-at
decreases-loop-at l = length l.configs - l.at
