-- The configurations so far have their records.
use Rattle.std.proofs.Common.{◌≡◌, map, take}
use Rattle.bfd_c.specs.Records.{fresh}
use Rattle.bfd_c.proofs.records.recorded.all_fresh.Given as goal

abbrev pub invariant-loop-config : goal.invariant-loop-config
invariant-loop-config l = record { made : l.records.items ≡ map fresh (take l.config-index l.configs) }
