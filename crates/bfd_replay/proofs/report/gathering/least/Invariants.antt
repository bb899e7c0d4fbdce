-- The best of the parts so far.
use Rattle.bfd_replay.proofs.Scan.{Best}
use Rattle.bfd_replay.proofs.report.gathering.least.Given as goal

abbrev pub invariant-loop-s : goal.invariant-loop-s
invariant-loop-s l = Best l.heads l.s l.best l.lowest
