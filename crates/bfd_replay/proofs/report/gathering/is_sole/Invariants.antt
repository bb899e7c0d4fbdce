-- Of the parts so far no other one has a piece.
use Rattle.bfd_replay.proofs.ReportCommon.{◌≡◌, ◌≢◌, ◌<◌, ℕ, get_or, None}
use Rattle.bfd_replay.proofs.report.gathering.is_sole.Given as goal

abbrev pub invariant-loop-r : goal.invariant-loop-r
invariant-loop-r l = (r : ℕ) → r < l.r → r ≢ l.s → get_or l.heads r None ≡ None
