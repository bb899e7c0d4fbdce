use Rattle.std.proofs.Common.{◌≡◌, ◌≤◌, min, drop}
use Rattle.bfd_lanes.specs.Places.{never, lowest}
use Rattle.bfd_lanes.proofs.lowest.lower.Given as goal

abbrev pub invariant-loop-due : goal.invariant-loop-due
invariant-loop-due l = record {
  value : min l.low (lowest (drop l.due-index l.dues)) ≡ min l.initial.low (lowest l.dues);
  fits : l.low ≤ never;
}
