-- What the shards' parts report is the tick's lines.
use Rattle.bfd_replay.proofs.StreamCommon.{◌+◌, ◌++◌, ◌∷◌, lines_from, took_nothing}
use Rattle.bfd_shard.specs.History.{last_tick, runs}
use Rattle.bfd_shard.specs.declared.entry.ShardEvent.TheVariants.{Tick}
use Rattle.bfd_replay.specs.Happenings.{Among}
use Rattle.bfd_replay.specs.Turning.{outcome_in}
use Rattle.bfd_replay.proofs.Ticking.{tick_dealt, tick_front, tick_spread, tick_was_reported}
use Rattle.bfd_replay.proofs.stream.reporting.report_parts.Goals as goal

pub returns-in-Err-clause-front : goal.returns-in-Err-clause-front
returns-in-Err-clause-front g c = λ sole past stands rest. took_nothing (g.K.Sink.taken c.args.sink.now)
    (c.args.reported.now.text ++ lines_from (c.args.reported.now.events + 1)
    (outcome_in (last_tick past) (Among (Tick c.args.tick)) (runs past c.args.engine.now.configs) ∷ rest))

pub returns-in-Ok-gather-clause-reported : goal.returns-in-Ok-gather-clause-reported
returns-in-Ok-gather-clause-reported g c = λ sole past stands rest.
    let dealt = tick_dealt c.args.engine.now c.number-number.result c.args.tick c.args.pass.now c.tick_parts.new.pass c.in-Ok.parts.items
    past c.requires.some c.requires.ascends c.in-Ok.ensures.long
    c.in-Ok.ensures.reported c.in-Ok.ensures.last sole stands in
    let spread = tick_spread c.args.engine.now c.number-number.result c.args.tick c.args.pass.now c.tick_parts.new.pass c.in-Ok.parts.items
    past c.requires.some c.requires.ascends c.in-Ok.ensures.long
    c.in-Ok.ensures.reported c.in-Ok.ensures.last sole stands in
    tick_was_reported c.args.engine.now c.number-number.result c.args.tick c.args.pass.now c.tick_parts.new.pass c.in-Ok.parts.items past
    c.requires.some c.requires.ascends c.in-Ok.ensures.long
    c.in-Ok.ensures.reported c.in-Ok.ensures.last sole stands
    c.args.reported.now c.gather.new.self c.number-number.ensures (c.in-Ok-gather.ensures.text dealt spread) c.in-Ok-gather.ensures.events
    (c.in-Ok-gather.ensures.txs dealt spread)
    (c.in-Ok-gather.ensures.drops dealt spread) rest

pub returns-in-Ok-gather-clause-front : goal.returns-in-Ok-gather-clause-front
returns-in-Ok-gather-clause-front g c = λ sole past stands rest.
    let dealt = tick_dealt c.args.engine.now c.number-number.result c.args.tick c.args.pass.now c.tick_parts.new.pass c.in-Ok.parts.items
    past c.requires.some c.requires.ascends c.in-Ok.ensures.long
    c.in-Ok.ensures.reported c.in-Ok.ensures.last sole stands in
    let spread = tick_spread c.args.engine.now c.number-number.result c.args.tick c.args.pass.now c.tick_parts.new.pass c.in-Ok.parts.items
    past c.requires.some c.requires.ascends c.in-Ok.ensures.long
    c.in-Ok.ensures.reported c.in-Ok.ensures.last sole stands in
    tick_front c.args.engine.now c.number-number.result c.args.tick c.args.pass.now c.tick_parts.new.pass c.in-Ok.parts.items past
    c.requires.some c.requires.ascends c.in-Ok.ensures.long
    c.in-Ok.ensures.reported c.in-Ok.ensures.last sole stands
    (g.K.Sink.taken c.args.sink.now) (g.K.Sink.taken c.gather.new.sink) c.args.reported.now c.number-number.ensures
    (c.gather.ensures.front dealt spread) rest

pub returns-in-Err-gather-clause-front : goal.returns-in-Err-gather-clause-front
returns-in-Err-gather-clause-front g c = λ sole past stands rest.
    let dealt = tick_dealt c.args.engine.now c.number-number.result c.args.tick c.args.pass.now c.tick_parts.new.pass c.in-Ok.parts.items
    past c.requires.some c.requires.ascends c.in-Ok.ensures.long
    c.in-Ok.ensures.reported c.in-Ok.ensures.last sole stands in
    let spread = tick_spread c.args.engine.now c.number-number.result c.args.tick c.args.pass.now c.tick_parts.new.pass c.in-Ok.parts.items
    past c.requires.some c.requires.ascends c.in-Ok.ensures.long
    c.in-Ok.ensures.reported c.in-Ok.ensures.last sole stands in
    tick_front c.args.engine.now c.number-number.result c.args.tick c.args.pass.now c.tick_parts.new.pass c.in-Ok.parts.items past
    c.requires.some c.requires.ascends c.in-Ok.ensures.long
    c.in-Ok.ensures.reported c.in-Ok.ensures.last sole stands
    (g.K.Sink.taken c.args.sink.now) (g.K.Sink.taken c.gather.new.sink) c.args.reported.now c.number-number.ensures
    (c.gather.ensures.front dealt spread) rest
