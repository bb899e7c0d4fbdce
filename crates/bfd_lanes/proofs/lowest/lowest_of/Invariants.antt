use Rattle.std.proofs.Common.{◌≡◌, ◌*◌, min, drop, length}
use Rattle.bfd_lanes.specs.Places.{lowest}
use Rattle.bfd_lanes.proofs.lowest.lowest_of.Given as goal

abbrev pub invariant-loop-block : goal.invariant-loop-block
invariant-loop-block l = record {
  value : min (lowest l.lanes) (lowest (drop (8 * l.block) l.dues)) ≡ lowest l.dues;
  width : length l.lanes ≡ 8;
}
