-- The sessions so far stand at the start, and the configurations that are left are within their ranges.
use Rattle.bfd_shard.proofs.Common.{◌≡◌, ◌++◌, map, AllByRecursion, IsSound, started, AreFit}
use Rattle.bfd_shard.proofs.start.sessions_of.Given as goal

abbrev pub invariant-loop-config : goal.invariant-loop-config
invariant-loop-config l = record {
  whole : l.yielded ++ l.config-iterator.rest.items ≡ l.fn.configs.items;
  fit : AreFit l.config-iterator.rest.items;
  made : l.sessions.items ≡ map started l.yielded;
  sound : AllByRecursion IsSound l.sessions.items;
}
