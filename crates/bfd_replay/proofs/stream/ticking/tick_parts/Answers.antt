-- One more shard.
use Rattle.std.proofs.Common.{◌+◌, arith, refl, rules, subst}
use Rattle.bfd_replay.specs.Turning.{HaveReportedTick}
use Rattle.bfd_replay.proofs.Going.{ticked_none, ticked_on, tick_kept, tick_refused, tick_reported}
use Rattle.bfd_replay.proofs.stream.ticking.tick_parts.Goals as goal

pub loop-shard-init : goal.loop-shard-init
loop-shard-init g c = record {
  of = c.requires.of;
  there = c.requires.there;
  room = refl;
  ticked = ticked_none c.args.engine.now c.args.tick c.args.pass.now;
  long = search rules;
  reported = λ r h. absurd (omega (arith, h));
}

pub loop-shard-preserved : goal.loop-shard-preserved
loop-shard-preserved g c = record {
  of = c.turn.ensures.of;
  there = c.turn.ensures.there;
  room = cc (c.turn.ensures.room, c.loop-shard.invariant.room);
  ticked = ticked_on c.args.engine.now c.args.tick c.loop-shard.shard c.args.pass.now c.loop-shard.pass c.turn.new.pass
      c.turn.new.outs.items c.in-Ok.field-0 c.requires.number c.loop-shard.invariant.ticked c.turn.result
      c.turn.ensures.call c.in-Ok.is;
  long = omega (arith, c.in-Ok-push.ensures.len, c.loop-shard.invariant.long);
  reported = subst (HaveReportedTick c.args.engine.now c.args.number c.args.tick (c.loop-shard.shard + 1) c.args.pass.now c.turn.new.pass)
      (search rules)
      (tick_reported c.args.engine.now c.args.tick c.loop-shard.shard c.args.pass.now c.loop-shard.pass c.turn.new.pass
      c.turn.new.outs.items
      c.in-Ok.field-0 c.requires.number c.loop-shard.invariant.ticked
      c.args.number c.loop-shard.parts.items c.turn.result c.loop-shard.invariant.long c.loop-shard.invariant.reported c.turn.ensures.call
      c.in-Ok.is);
}

pub returns-in-Err-clause-refused : goal.returns-in-Err-clause-refused
returns-in-Err-clause-refused g c = tick_refused c.args.engine.now c.args.tick c.loop-shard.shard c.args.pass.now c.loop-shard.pass
    c.turn.new.pass _ c.in-Err.fault c.turn.result c.requires.number (search rules)
    c.loop-shard.invariant.ticked c.turn.ensures.call c.in-Err.is

pub returns-in-Err-clause-kept : goal.returns-in-Err-clause-kept
returns-in-Err-clause-kept g c = tick_kept c.args.engine.now c.args.tick c.loop-shard.shard c.args.pass.now c.loop-shard.pass
    c.turn.new.pass _ c.turn.result c.loop-shard.invariant.ticked c.turn.ensures.call

pub returns-in_default-clause-kept : goal.returns-in_default-clause-kept
returns-in_default-clause-kept g c = tick_kept c.args.engine.now c.args.tick c.loop-shard.shard c.args.pass.now c.loop-shard.pass
    c.turn.new.pass _ c.turn.result c.loop-shard.invariant.ticked c.turn.ensures.call

pub returns-in_default-push-clause-kept : goal.returns-in_default-push-clause-kept
returns-in_default-push-clause-kept g c = tick_kept c.args.engine.now c.args.tick c.loop-shard.shard c.args.pass.now c.loop-shard.pass
    c.turn.new.pass _ c.turn.result c.loop-shard.invariant.ticked c.turn.ensures.call
