use Rattle.bfd_replay.proofs.ReportCommon.{arith, inl, ◌∙◌}
use Rattle.bfd_replay.proofs.Written.{took_more}
use Rattle.bfd_replay.proofs.report.output.write_all.Goals as goal

-- one more piece was accepted
pub pieces-preserved : goal.pieces-preserved
pieces-preserved g c = rw c.split_at.ensures.back
    (took_more _ _ _ _ c.pieces.invariant.0 c.in-Ok.ensures.bytes, c.in-Ok.ensures.calm (inl (omega (arith))) ∙ c.pieces.invariant.1)
