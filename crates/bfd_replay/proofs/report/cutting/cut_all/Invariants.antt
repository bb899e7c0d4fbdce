-- The parts so far are cut.
use Rattle.bfd_replay.proofs.ReportCommon.{ℕ, ◌≡◌, ◌<◌, [], get_or, length}
use Rattle.bfd_replay.specs.Cutting.{IsHalved}
use Rattle.bfd_replay.proofs.report.cutting.cut_all.Given as goal

abbrev pub invariant-loop-s : goal.invariant-loop-s
invariant-loop-s l = record {
  fronts_long : length l.fronts.items ≡ l.s;
  backs_long : length l.backs.items ≡ l.s;
  each : (r : ℕ) → r < l.s → IsHalved l.rank (get_or l.rests.items r []) (get_or l.fronts.items r []) (get_or l.backs.items r []);
}
