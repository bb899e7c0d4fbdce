-- The lines and the last line are the report, once the closed engine shows that nobody else took a turn.
use Rattle.bfd_replay.proofs.StreamCommon.{◌∙◌, ap, arith, happenings, PendingLines}
use Rattle.bfd_replay.specs.PendingLines.{outcomes_on}
use Rattle.bfd_replay.proofs.Events.{counts_reported, lines_front, report_front, report_whole}
use Rattle.bfd_replay.proofs.OneCaller.{all_sole, none_open}
use Rattle.bfd_replay.proofs.Reporting.{calm_cause, cause_as, closed_after, meant, stop_cause}
use Rattle.bfd_replay.proofs.stream.reporting.report_all.Goals as goal

pub close-states-requires-clause-first : goal.close-states-requires-clause-first
close-states-requires-clause-first g c = c.report_lines-end.ensures.kept.number ∙ c.requires.new.number

pub close-states-requires-clause-joined : goal.close-states-requires-clause-joined
close-states-requires-clause-joined g c = none_open c.requires.new c.report_lines-end.ensures.kept

pub reason_of-requires : goal.reason_of-requires
reason_of-requires g c = meant c.in-Err.stop c.requires.new c.report_lines-end.ensures.kept (omega (arith, c.requires.few))
    c.close-states.ensures.closed c.in-Err.ensures.stopped

pub returns-in-Ok-close-clause-whole : goal.returns-in-Ok-close-clause-whole
returns-in-Ok-close-clause-whole g c =
    let sole = all_sole c.requires.new c.report_lines-end.ensures.kept c.close-states.ensures.closed in
    report_whole (g.K.Sink.taken c.args.sink.now) (g.K.Sink.taken c.report_lines-end.new.sink) (g.K.Sink.taken c.close.new.sink)
    c.new-reported.result c.report_lines-end.new.reported
    (outcomes_on c.args.engine (happenings c.args.engine.configs c.args.engine.pool c.args.events.items)) (ap (λ (t : PendingLines). t.text)
    c.new-reported.ensures) (ap (λ (t : PendingLines). t.events) c.new-reported.ensures)
    (ap (λ (t : PendingLines). t.txs) c.new-reported.ensures)
    (ap (λ (t : PendingLines). t.drops) c.new-reported.ensures) (c.in-Ok.ensures.reported sole) c.in-Ok-close.ensures.whole

pub returns-in-Ok-close-clause-states : goal.returns-in-Ok-close-clause-states
returns-in-Ok-close-clause-states g c =
    closed_after (happenings c.args.engine.configs c.args.engine.pool c.args.events.items) c.requires.new c.report_lines-end.ensures.kept
    c.close-states.ensures.closed c.in-Ok.ensures.brought

pub returns-in-Ok-close-clause-front : goal.returns-in-Ok-close-clause-front
returns-in-Ok-close-clause-front g c =
    let sole = all_sole c.requires.new c.report_lines-end.ensures.kept c.close-states.ensures.closed in
    report_front (g.K.Sink.taken c.args.sink.now) (g.K.Sink.taken c.report_lines-end.new.sink) (g.K.Sink.taken c.close.new.sink)
    c.new-reported.result c.report_lines-end.new.reported
    (outcomes_on c.args.engine (happenings c.args.engine.configs c.args.engine.pool c.args.events.items))
    (ap (λ (t : PendingLines). t.text) c.new-reported.ensures) (ap (λ (t : PendingLines). t.events) c.new-reported.ensures)
    (ap (λ (t : PendingLines). t.txs)
    c.new-reported.ensures) (ap (λ (t : PendingLines). t.drops) c.new-reported.ensures) (c.in-Ok.ensures.reported sole)
    c.close.ensures.front

pub returns-in-Ok-close-clause-cause : goal.returns-in-Ok-close-clause-cause
returns-in-Ok-close-clause-cause g c = calm_cause _ _ _ (c.in-Ok-close.ensures.calm ∙ c.in-Ok.ensures.calm)

pub returns-in-Err-close-clause-front : goal.returns-in-Err-close-clause-front
returns-in-Err-close-clause-front g c =
    let sole = all_sole c.requires.new c.report_lines-end.ensures.kept c.close-states.ensures.closed in
    report_front (g.K.Sink.taken c.args.sink.now) (g.K.Sink.taken c.report_lines-end.new.sink) (g.K.Sink.taken c.close.new.sink)
    c.new-reported.result c.report_lines-end.new.reported
    (outcomes_on c.args.engine (happenings c.args.engine.configs c.args.engine.pool c.args.events.items))
    (ap (λ (t : PendingLines). t.text) c.new-reported.ensures) (ap (λ (t : PendingLines). t.events) c.new-reported.ensures)
    (ap (λ (t : PendingLines). t.txs)
    c.new-reported.ensures) (ap (λ (t : PendingLines). t.drops) c.new-reported.ensures) (c.in-Ok.ensures.reported sole)
    c.close.ensures.front

pub returns-in-Err-close-clause-cause : goal.returns-in-Err-close-clause-cause
returns-in-Err-close-clause-cause g c = cause_as c.in-Err-close.fault _ _ _ c.in-Ok.ensures.calm c.in-Err-close.ensures.cause

pub returns-in-Err-clause-front : goal.returns-in-Err-clause-front
returns-in-Err-clause-front g c =
    let sole = all_sole c.requires.new c.report_lines-end.ensures.kept c.close-states.ensures.closed in
    lines_front (g.K.Sink.taken c.args.sink.now) (g.K.Sink.taken c.report_lines-end.new.sink) (g.K.Sink.taken c.report_lines-end.new.sink)
    c.new-reported.result c.report_lines-end.new.reported
    (outcomes_on c.args.engine (happenings c.args.engine.configs c.args.engine.pool c.args.events.items))
    (ap (λ (t : PendingLines). t.text) c.new-reported.ensures) (ap (λ (t : PendingLines). t.events) c.new-reported.ensures)
    (ap (λ (t : PendingLines). t.txs)
    c.new-reported.ensures) (ap (λ (t : PendingLines). t.drops) c.new-reported.ensures) (c.report_lines-end.ensures.front sole)

pub returns-in-Err-clause-cause : goal.returns-in-Err-clause-cause
returns-in-Err-clause-cause g c = rw c.reason_of.ensures (stop_cause _ _ c.in-Err.stop c.in-Err.ensures.cause
    (meant c.in-Err.stop c.requires.new c.report_lines-end.ensures.kept (omega (arith, c.requires.few)) c.close-states.ensures.closed
    c.in-Err.ensures.stopped))

pub returns-in-Ok-close-clause-counts : goal.returns-in-Ok-close-clause-counts
returns-in-Ok-close-clause-counts g c =
    let sole = all_sole c.requires.new c.report_lines-end.ensures.kept c.close-states.ensures.closed in
    c.in-Ok-close.ensures.counts ∙ counts_reported c.new-reported.result c.report_lines-end.new.reported
    (outcomes_on c.args.engine (happenings c.args.engine.configs c.args.engine.pool c.args.events.items))
    (ap (λ (t : PendingLines). t.events) c.new-reported.ensures) (ap (λ (t : PendingLines). t.txs) c.new-reported.ensures)
    (ap (λ (t : PendingLines). t.drops) c.new-reported.ensures) (c.in-Ok.ensures.reported sole)
