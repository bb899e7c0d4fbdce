-- One more shard.
use Rattle.bfd_serve.proofs.RunCommon.{IsShard}
use Rattle.bfd_serve.proofs.Closings.{one_more}
use Rattle.bfd_serve.proofs.run.running.keep.Goals as goal

pub loop-at-preserved : goal.loop-at-preserved
loop-at-preserved g c = one_more IsShard c.args.states.now c.loop-at.at c.index-states-at.result c.loop-at-test.true c.index-states-at.is
    c.sessions.ensures.kept c.loop-at.invariant
