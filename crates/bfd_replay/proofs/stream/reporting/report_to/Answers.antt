-- What the lines give is the script's report.
use Rattle.bfd_replay.proofs.StreamCommon.{◌∙◌, ap, refl, subst, script_with, took_nothing}
use Rattle.bfd_script.specs.Reading.{Lists}
use Rattle.bfd_replay.specs.Counts.{counts_of}
use Rattle.bfd_replay.specs.Replayed.{HasTotals, taker_of}
use Rattle.std.proofs.Common.{rules}
use Rattle.std.specs.Io.KnownBytes.{Appends}
use Rattle.bfd_instance.specs.World.{replayed}
use Rattle.bfd_replay.specs.Written.{TookFront}
use Rattle.bfd_replay.proofs.Gathered.{room_enough, totals_are}
use Rattle.bfd_replay.proofs.Reporting.{calm_cause, outcomes_were, report_on, replayed_on}
use Rattle.bfd_replay.proofs.stream.reporting.report_to.Goals as goal

pub returns-in_default-clause-front : goal.returns-in_default-clause-front
returns-in_default-clause-front g c = took_nothing (g.K.Sink.taken c.args.sink.now) (replayed c.args.script)

pub returns-in_default-with_capacity-clause-front : goal.returns-in_default-with_capacity-clause-front
returns-in_default-with_capacity-clause-front g c = took_nothing (g.K.Sink.taken c.args.sink.now) (replayed c.args.script)

pub returns-in_default-opened-clause-front : goal.returns-in_default-opened-clause-front
returns-in_default-opened-clause-front g c = took_nothing (g.K.Sink.taken c.args.sink.now) (replayed c.args.script)

pub report_all-requires-clause-room : goal.report_all-requires-clause-room
report_all-requires-clause-room g c = λ shard. room_enough c.in-Ok-opened.engine shard c.in-Ok-opened.ensures.engine.configs_are
    (search rules)

pub returns-in-Ok-report_all-clause-whole : goal.returns-in-Ok-report_all-clause-whole
returns-in-Ok-report_all-clause-whole g c =
    subst (λ t. Appends (g.K.Sink.taken c.args.sink.now) (g.K.Sink.taken c.report_all.new.sink) t)
    (report_on (script_with c.script.inside.configs.items c.script.inside.pool.items c.script.inside.events.items)
    c.in-Ok-opened.ensures.engine c.script.view_is) c.in-Ok-report_all.ensures.whole

pub returns-in-Ok-report_all-clause-states : goal.returns-in-Ok-report_all-clause-states
returns-in-Ok-report_all-clause-states g c =
    rw c.of.ensures (replayed_on (script_with c.script.inside.configs.items c.script.inside.pool.items c.script.inside.events.items)
    c.in-Ok-opened.ensures.engine c.script.view_is c.in-Ok-report_all.ensures.states)

pub returns-in-Ok-report_all-clause-front : goal.returns-in-Ok-report_all-clause-front
returns-in-Ok-report_all-clause-front g c =
    subst (λ t. TookFront (g.K.Sink.taken c.args.sink.now) (g.K.Sink.taken c.report_all.new.sink) t)
    (report_on (script_with c.script.inside.configs.items c.script.inside.pool.items c.script.inside.events.items)
    c.in-Ok-opened.ensures.engine c.script.view_is) c.report_all.ensures.front

pub returns-in-Ok-report_all-clause-cause : goal.returns-in-Ok-report_all-clause-cause
returns-in-Ok-report_all-clause-cause g c = calm_cause _ _ _ c.in-Ok-report_all.ensures.calm

pub returns-in-Err-clause-front : goal.returns-in-Err-clause-front
returns-in-Err-clause-front g c =
    subst (λ t. TookFront (g.K.Sink.taken c.args.sink.now) (g.K.Sink.taken c.report_all.new.sink) t)
    (report_on (script_with c.script.inside.configs.items c.script.inside.pool.items c.script.inside.events.items)
    c.in-Ok-opened.ensures.engine c.script.view_is) c.report_all.ensures.front

pub returns-in-Ok-report_all-clause-totals : goal.returns-in-Ok-report_all-clause-totals
returns-in-Ok-report_all-clause-totals g c =
    let script : Lists = script_with c.script.inside.configs.items c.script.inside.pool.items c.script.inside.events.items in
    subst (λ s. HasTotals s c.in-Ok-report_all.counts c.up_all.result) c.script.view_is
    (totals_are script c.args.shards (taker_of 1) c.requires.shards.0
    (replayed_on script c.in-Ok-opened.ensures.engine refl c.in-Ok-report_all.ensures.states) c.up_all.ensures.kept c.up_all.ensures.value
    (c.in-Ok-report_all.ensures.counts ∙ ap counts_of (outcomes_were script c.in-Ok-opened.ensures.engine refl)))
