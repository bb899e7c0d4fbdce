-- One due tick more is kept.
use Rattle.bfd_shard.proofs.Common.{◌∙◌, ap, arith, length, length-set}
use Rattle.bfd_shard.proofs.Setting.{due_more}
use Rattle.bfd_shard.proofs.start.keep_all.Goals as goal

pub loop-place-preserved : goal.loop-place-preserved
loop-place-preserved g c =
    record {
      long = ap length c.keep_due.ensures.dues ∙ (length-set _ _ _ ∙ c.loop-place.invariant.long);
      kept = cc (due_more c.args.sessions.now (g.W.Timers.dues c.args.timers.now) c.index-sessions-place.result
          (omega (arith, c.loop-place-test.true, c.loop-place-test.true)) c.requires.long c.loop-place.invariant.kept);
    }
