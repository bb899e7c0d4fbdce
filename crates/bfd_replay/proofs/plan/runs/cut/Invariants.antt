-- The lines that are not cut yet; the runs stand in reverse.
use Rattle.bfd_replay.proofs.PlanCommon.{◌≡◌, ◌+◌, length, reverse}
use Rattle.std.specs.Prelude.{◌*◌}
use Rattle.bfd_replay.proofs.Parting.{IsCut}
use Rattle.bfd_replay.proofs.plan.runs.cut.Given as goal

abbrev pub invariant-runs : goal.invariant-runs
invariant-runs l = record {
  cut : IsCut l.fn.lines.items l.left.items (reverse l.runs.items);
  long : length l.runs.items * l.size + length l.left.items ≡ length l.fn.lines.items;
}

abbrev pub decreases-runs : goal.decreases-runs
decreases-runs l = length l.left.items
