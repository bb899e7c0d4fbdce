use Rattle.bfd_wheel.proofs.Common.{length, refl, arith}
use Rattle.bfd_wheel.proofs.TakenIds.{took_none, took_then}
use Rattle.bfd_wheel.proofs.Swept.{left_none, left_more, left_all}
use Rattle.bfd_wheel.proofs.take.sweep.Goals as goal

pub loop-tick-init : goal.loop-tick-init
loop-tick-init c = record {
  wheel = c.requires.wheel;
  took = took_none c.args.t c.args.dues.now c.args.out.now.items;
  left = left_none (length c.args.dues.now) c.args.now c.args.t c.args.dues.now;
  room = refl;
  spare = c.requires.room;
}

pub loop-tick-preserved : goal.loop-tick-preserved
loop-tick-preserved c = record {
  wheel = rw (← c.loop-tick.auto.dues) c.collect.ensures.wheel;
  took = took_then _ _ _ _ _ _ _ c.loop-tick.invariant.took c.collect.ensures.took;
  left = left_more _ _ c.loop-tick.auto.dues c.loop-tick.invariant.left c.collect.ensures.took c.collect.ensures.left;
  room = cc;
  spare = c.collect.ensures.spare;
}

pub returns-clause-left : goal.returns-clause-left
returns-clause-left c = left_all _ _ c.loop-tick.invariant.left (omega arith)
