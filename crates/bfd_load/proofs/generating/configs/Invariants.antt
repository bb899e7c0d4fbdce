-- The sessions before this one are made.
use Rattle.std.proofs.Common.{◌≡◌, ◌-◌, map}
use Rattle.std.specs.List.{range_with_len}
use Rattle.bfd_load.specs.Load as load
use Rattle.bfd_load.proofs.generating.configs.Given as goal

abbrev pub invariant-loop-i : goal.invariant-loop-i
invariant-loop-i l = l.configs.items ≡ map (load.config l.seed) (range_with_len 1 (l.i - 1))
