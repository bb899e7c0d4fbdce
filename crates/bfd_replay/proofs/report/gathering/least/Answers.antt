-- One more part is looked at.
use Rattle.bfd_replay.proofs.Scan.{best_some, higher, kept, lower}
use Rattle.bfd_replay.proofs.report.gathering.least.Goals as goal
use Rattle.bfd_replay.proofs.report.gathering.least.Goals.{in-Some+then-rank-lowest, in-Some+else-rank-lowest, in_default}

pub loop-s-preserved : goal.loop-s-preserved
loop-s-preserved c = elim c.match-heads-s.branch [
  | in-Some+then-rank-lowest w ↦ rw (w.best-is, w.lowest-is)
      (lower _ c.loop-s.invariant c.loop-s-test.true w.in-Some.is w.if-rank-lowest.true)
  | in-Some+else-rank-lowest w ↦ rw (w.best-is, w.lowest-is) (higher _ c.loop-s.invariant w.in-Some.is w.if-rank-lowest.false search)
  | in_default w ↦ rw (w.best-is, w.lowest-is) (kept _ c.loop-s.invariant (λ rank e. absurd (w.in_default.not-Some rank e)))
]

pub returns-then-best-heads-clause-some : goal.returns-then-best-heads-clause-some
returns-then-best-heads-clause-some c = best_some _ _ _ _ c.loop-s.invariant c.loop-s-test.false c.if-best-heads.true
