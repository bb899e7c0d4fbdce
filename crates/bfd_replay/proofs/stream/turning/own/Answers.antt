-- An own event of a session, in its shard.
use Rattle.std.proofs.Common.{rules}
use Rattle.bfd_engine.proofs.Reaching.{dealt_event}
use Rattle.bfd_replay.proofs.Going.{done_kept, own_gave, own_refused, own_went}
use Rattle.bfd_replay.proofs.stream.turning.own.Goals as goal

pub turn-requires-clause-can : goal.turn-requires-clause-can
turn-requires-clause-can g c = dealt_event c.args.engine.now c.args.place c.shards-shards.result c.args.event c.shards-shards.ensures.value
    c.shards-shards.ensures.few.0 c.requires.taken

pub returns-in-Ok-clause-kept : goal.returns-in-Ok-clause-kept
returns-in-Ok-clause-kept g c = done_kept c.args.engine.now _ _ c.args.pass.now c.turn.new.pass _ c.turn.new.outs.items c.turn.result
    c.turn.ensures.call

pub returns-in-Err-clause-kept : goal.returns-in-Err-clause-kept
returns-in-Err-clause-kept g c = done_kept c.args.engine.now _ _ c.args.pass.now c.turn.new.pass _ c.turn.new.outs.items c.turn.result
    c.turn.ensures.call

pub returns-in-Ok-clause-went : goal.returns-in-Ok-clause-went
returns-in-Ok-clause-went g c = own_went c.args.engine.now c.args.place c.args.moment c.args.event c.args.pass.now c.turn.new.pass
    c.turn.new.outs.items c.shards-shards.ensures.value c.requires.number c.turn.ensures.call c.in-Ok.is

pub returns-in-Ok-clause-gave : goal.returns-in-Ok-clause-gave
returns-in-Ok-clause-gave g c = own_gave c.args.engine.now c.args.place c.args.moment c.args.event c.args.pass.now c.turn.new.pass
    c.turn.new.outs.items c.shards-shards.ensures.value c.requires.number c.turn.ensures.call c.shards-shards.ensures.few.0 c.in-Ok.is

pub returns-in-Err-clause-refused : goal.returns-in-Err-clause-refused
returns-in-Err-clause-refused g c = own_refused c.args.engine.now c.args.place c.args.moment c.args.event c.args.pass.now c.turn.new.pass
    c.turn.new.outs.items c.shards-shards.ensures.value c.requires.number c.turn.ensures.call (search rules) c.in-Err.is
