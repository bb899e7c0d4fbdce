-- One more call, and the last of them.
use Rattle.std.proofs.Common.{refl, arith}
use Rattle.bfd_thread_tests.proofs.Worked.{worked_same, worked_then}
use Rattle.bfd_thread_tests.proofs.embedding.threads.work.Goals as goal

pub loop-count-init : goal.loop-count-init
loop-count-init g c = record {
  worked = worked_same c.args.engine.now c.args.job.now c.requires.ready refl refl refl refl;
  left = omega arith;
}

pub loop-count-preserved : goal.loop-count-preserved
loop-count-preserved g c = record {
  worked = worked_then c.args.engine.now c.loop-count.invariant.worked c.next.ensures.worked;
  left = omega (arith, c.loop-count.invariant.left, c.in_ok-next.ensures.one);
}

pub returns-in_err-next-clause-worked : goal.returns-in_err-next-clause-worked
returns-in_err-next-clause-worked g c = worked_then c.args.engine.now c.loop-count.invariant.worked c.next.ensures.worked
