-- The line's text is reported, and the sink accepted nothing if there was none.
use Rattle.bfd_replay.proofs.StreamCommon.{◌+◌, ◌++◌, ◌∷◌, subst, lines_from, happening, took_nothing}
use Rattle.bfd_shard.specs.History.{last_tick, runs}
use Rattle.bfd_session.specs.Alone.{Outcome}
use Rattle.bfd_replay.specs.Turning.{outcome_in}
use Rattle.bfd_replay.specs.PendingLines.{ReportedUpTo}
use Rattle.bfd_replay.specs.Written.{TookFront}
use Rattle.bfd_replay.proofs.Events.{event_front, event_reported}
use Rattle.bfd_replay.proofs.stream.reporting.report_one.Goals as goal

pub returns-in-Err-clause-front : goal.returns-in-Err-clause-front
returns-in-Err-clause-front g c = λ sole past stands rest. took_nothing (g.K.Sink.taken c.args.sink.now)
    (c.args.reported.now.text ++ lines_from (c.args.reported.now.events + 1) (outcome_in (last_tick past)
    (happening c.args.engine.now.configs c.args.engine.now.pool c.args.line) (runs past c.args.engine.now.configs) ∷ rest))

pub returns-in-Ok-append_outcome-clause-reported : goal.returns-in-Ok-append_outcome-clause-reported
returns-in-Ok-append_outcome-clause-reported g c = λ sole past stands rest.
    let o : Outcome = record { items = c.happen.new.outs.items; answer = c.in-Ok.answer } in
    subst (λ x. ReportedUpTo (g.K.Sink.taken c.args.sink.now) (g.K.Sink.taken c.append_outcome.new.sink) c.args.reported.now
    c.append_outcome.new.self (x ∷ rest) rest)
    (c.in-Ok.ensures.gave c.requires.one sole past stands)
    (event_reported _ _ c.args.reported.now c.append_outcome.new.self o c.in-Ok-append_outcome.ensures.events
    c.in-Ok-append_outcome.ensures.txs c.in-Ok-append_outcome.ensures.drops
    c.in-Ok-append_outcome.ensures.text rest)

pub returns-in-Ok-append_outcome-clause-front : goal.returns-in-Ok-append_outcome-clause-front
returns-in-Ok-append_outcome-clause-front g c = λ sole past stands rest.
    let o : Outcome = record { items = c.happen.new.outs.items; answer = c.in-Ok.answer } in
    subst (λ x. TookFront (g.K.Sink.taken c.args.sink.now) (g.K.Sink.taken c.append_outcome.new.sink)
    (c.args.reported.now.text ++ lines_from (c.args.reported.now.events + 1) (x ∷ rest)))
    (c.in-Ok.ensures.gave c.requires.one sole past stands)
    (event_front _ _ c.args.reported.now o rest c.append_outcome.ensures.front)

pub returns-in-Err-append_outcome-clause-front : goal.returns-in-Err-append_outcome-clause-front
returns-in-Err-append_outcome-clause-front g c = λ sole past stands rest.
    let o : Outcome = record { items = c.happen.new.outs.items; answer = c.in-Ok.answer } in
    subst (λ x. TookFront (g.K.Sink.taken c.args.sink.now) (g.K.Sink.taken c.append_outcome.new.sink)
    (c.args.reported.now.text ++ lines_from (c.args.reported.now.events + 1) (x ∷ rest)))
    (c.in-Ok.ensures.gave c.requires.one sole past stands)
    (event_front _ _ c.args.reported.now o rest c.append_outcome.ensures.front)
