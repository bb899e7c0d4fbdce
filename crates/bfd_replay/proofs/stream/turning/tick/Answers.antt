-- One more shard.
use Rattle.std.proofs.Common.{arith, refl, rules}
use Rattle.bfd_replay.proofs.Going.{one_gave, tick_first, ticked_none, ticked_on, tick_refused, tick_kept}
use Rattle.bfd_replay.proofs.stream.turning.tick.Goals as goal

pub loop-shard-init : goal.loop-shard-init
loop-shard-init g c = record {
  of = c.requires.of;
  there = c.requires.there;
  room = refl;
  ticked = ticked_none c.args.engine.now c.args.tick c.args.pass.now;
  gave = λ one. absurd (omega (arith, one));
}

pub loop-shard-preserved : goal.loop-shard-preserved
loop-shard-preserved g c = record {
  of = c.turn.ensures.of;
  there = c.turn.ensures.there;
  room = cc (c.turn.ensures.room, c.loop-shard.invariant.room);
  ticked = ticked_on c.args.engine.now c.args.tick c.loop-shard.shard c.args.pass.now c.loop-shard.pass c.turn.new.pass
      c.turn.new.outs.items c.in-Ok.answer c.requires.number c.loop-shard.invariant.ticked c.turn.result
      c.turn.ensures.call c.in-Ok.is;
  gave = tick_first c.args.engine.now c.args.tick c.loop-shard.shard c.args.pass.now c.loop-shard.pass c.turn.new.pass c.turn.new.outs.items
      c.in-Ok.answer c.requires.number c.loop-shard.invariant.ticked c.turn.result
      c.turn.ensures.call c.in-Ok.is;
}

pub returns-clause-gave : goal.returns-clause-gave
returns-clause-gave g c = one_gave c.args.engine.now c.args.tick c.loop-shard.shard c.args.pass.now c.loop-shard.pass _ (search rules)
    c.loop-shard.invariant.gave

pub returns-in-Err-clause-refused : goal.returns-in-Err-clause-refused
returns-in-Err-clause-refused g c = tick_refused c.args.engine.now c.args.tick c.loop-shard.shard c.args.pass.now c.loop-shard.pass
    c.turn.new.pass _ c.in-Err.fault c.turn.result c.requires.number (search rules)
    c.loop-shard.invariant.ticked c.turn.ensures.call c.in-Err.is

pub returns-in-Err-clause-kept : goal.returns-in-Err-clause-kept
returns-in-Err-clause-kept g c = tick_kept c.args.engine.now c.args.tick c.loop-shard.shard c.args.pass.now c.loop-shard.pass
    c.turn.new.pass _ c.turn.result c.loop-shard.invariant.ticked c.turn.ensures.call
