-- The parts so far have these heads.
use Rattle.bfd_replay.proofs.ReportCommon.{◌≡◌, ◌++◌, drop, map, first_key, keys}
use Rattle.bfd_replay.proofs.report.gathering.heads_of.Given as goal

abbrev pub invariant-loop-s : goal.invariant-loop-s
invariant-loop-s l = keys l.heads.items ++ map first_key (drop l.s l.rests.items) ≡ map first_key l.rests.items
