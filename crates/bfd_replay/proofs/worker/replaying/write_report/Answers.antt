-- The texts are the report, and if memory ran out the sink accepted nothing.
use Rattle.bfd_replay.proofs.WorkerCommon.{refl, subst}
use Rattle.bfd_replay.proofs.Reporting.{cause_as}
use Rattle.bfd_script.specs.Report.{report}
use Rattle.bfd_replay.specs.Happenings.{happening_outcomes}
use Rattle.bfd_replay.specs.Written.{TookFront}
use Rattle.bfd_replay.proofs.Written.{took_nothing}
use Rattle.bfd_replay.proofs.worker.replaying.write_report.Goals as goal

pub returns-in_default-clause-front : goal.returns-in_default-clause-front
returns-in_default-clause-front g c = λ shards last hs ss long are. took_nothing (g.K.Sink.taken c.args.sink.now)
    (report (happening_outcomes last hs ss))

pub returns-in-Ok-written-clause-front : goal.returns-in-Ok-written-clause-front
returns-in-Ok-written-clause-front g c = λ shards last hs ss long are.
    subst (λ t. TookFront (g.K.Sink.taken c.args.sink.now) (g.K.Sink.taken c.write_each-written.new.sink) t)
    (cc (c.as_slice.ensures.value, c.in-Ok.ensures.texts shards last hs ss long are)) c.write_each-written.ensures.front

pub returns-clause-front : goal.returns-clause-front
returns-clause-front g c = λ shards last hs ss long are.
    subst (λ t. TookFront (g.K.Sink.taken c.args.sink.now) (g.K.Sink.taken c.write_each-written.new.sink) t)
    (cc (c.as_slice.ensures.value, c.in-Ok.ensures.texts shards last hs ss long are)) c.write_each-written.ensures.front

pub returns-clause-cause : goal.returns-clause-cause
returns-clause-cause g c = cause_as c.in-Err.fault _ _ _ refl c.in-Err.ensures.cause
