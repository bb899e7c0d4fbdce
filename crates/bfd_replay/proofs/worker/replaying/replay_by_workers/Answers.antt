-- The parts' report is the script's.
use Rattle.bfd_replay.proofs.WorkerCommon.{rules, ◌≡◌, ◌∙◌, ap, length, map, subst, Lists, happenings, replayed, report, script_with}
use Rattle.bfd_replay.proofs.WorkerCommon.{started, world_is}
use Rattle.std.specs.Io.KnownBytes.{Appends}
use Rattle.bfd_replay.specs.Happenings.{happening_outcomes}
use Rattle.bfd_replay.specs.Replayed.{HasTotals, worker_of}
use Rattle.bfd_replay.specs.Written.{TookFront}
use Rattle.bfd_replay.proofs.Gathered.{happenings_long, totals_are}
use Rattle.bfd_replay.proofs.Written.{took_nothing}
use Rattle.bfd_replay.proofs.worker.replaying.replay_by_workers.Goals as goal

report_is : (script : Lists) {whole : Lists} → script ≡ whole
    → report (happening_outcomes 0 (happenings script.configs script.pool script.events) (map started script.configs)) ≡ replayed whole
report_is script same = ap report (world_is script) ∙ ap replayed same

pub returns-in_default-clause-front : goal.returns-in_default-clause-front
returns-in_default-clause-front g c = took_nothing (g.K.Sink.taken c.args.sink.now) (replayed c.args.script)

pub returns-in-Ok-write_report-clause-whole : goal.returns-in-Ok-write_report-clause-whole
returns-in-Ok-write_report-clause-whole g c =
    let script : Lists = script_with c.script.inside.configs.items c.script.inside.pool.items c.script.inside.events.items in
    let count : length c.script.inside.events.items ≡ c.len-count.result = search rules in
    subst (λ t. Appends (g.K.Sink.taken c.args.sink.now) (g.K.Sink.taken c.write_report.new.sink) t) (report_is script c.script.view_is)
    (c.in-Ok-write_report.ensures.whole c.args.shards 0 (happenings script.configs script.pool script.events) (map started script.configs)
    (happenings_long script.configs script.pool script.events ∙ count) c.in-Ok.ensures.parts)

pub returns-in-Ok-write_report-clause-front : goal.returns-in-Ok-write_report-clause-front
returns-in-Ok-write_report-clause-front g c =
    let script : Lists = script_with c.script.inside.configs.items c.script.inside.pool.items c.script.inside.events.items in
    let count : length c.script.inside.events.items ≡ c.len-count.result = search rules in
    subst (λ t. TookFront (g.K.Sink.taken c.args.sink.now) (g.K.Sink.taken c.write_report.new.sink) t) (report_is script c.script.view_is)
    (c.write_report.ensures.front c.args.shards 0 (happenings script.configs script.pool script.events) (map started script.configs)
    (happenings_long script.configs script.pool script.events ∙ count) c.in-Ok.ensures.parts)

pub returns-in-Err-clause-front : goal.returns-in-Err-clause-front
returns-in-Err-clause-front g c =
    let script : Lists = script_with c.script.inside.configs.items c.script.inside.pool.items c.script.inside.events.items in
    let count : length c.script.inside.events.items ≡ c.len-count.result = search rules in
    subst (λ t. TookFront (g.K.Sink.taken c.args.sink.now) (g.K.Sink.taken c.write_report.new.sink) t) (report_is script c.script.view_is)
    (c.write_report.ensures.front c.args.shards 0 (happenings script.configs script.pool script.events) (map started script.configs)
    (happenings_long script.configs script.pool script.events ∙ count) c.in-Ok.ensures.parts)

pub returns-in-Ok-write_report-clause-totals : goal.returns-in-Ok-write_report-clause-totals
returns-in-Ok-write_report-clause-totals g c =
    let script : Lists = script_with c.script.inside.configs.items c.script.inside.pool.items c.script.inside.events.items in
    let count : length c.script.inside.events.items ≡ c.len-count.result = search rules in
    subst (λ s. HasTotals s c.in-Ok-write_report.counts c.up_all-up.result) c.script.view_is
    (totals_are script c.args.shards (worker_of c.args.workers) c.requires.shards.0 c.in-Ok.ensures.states c.up_all-up.ensures.kept
    c.up_all-up.ensures.value
    (c.in-Ok-write_report.ensures.counts c.args.shards 0 (happenings script.configs script.pool script.events) (map started script.configs)
    (happenings_long script.configs script.pool script.events ∙ count) c.in-Ok.ensures.parts))
