-- What the parts of a run promise of the job is promised of the words that ask for it.
use Rattle.bfdd.proofs.Common.{◌≡◌, ◌⊎◌, true, false, Some, inr, subst, sym, IfSome, Rose, Job, Memory, IsDecided, IsServedToFinish}
use Rattle.bfdd.proofs.Common.{edges_of, Wanted, wanted_of, is_reading, serves, Appends, TookFront, took_nothing}
use Rattle.bfdd.specs.RunReport.{IsReported}
use Rattle.bfdd.proofs.Ending.{ended, ends_so, unopened}
use Rattle.bfdd.proofs.Served.{finished, of_serving}
use Rattle.bfdd.proofs.Wanting.{done_wanted, of_all, of_answer, of_job, settled}
use Rattle.bfdd.proofs.Writing.{bad_text, calm, decided, front, no_read_fault, no_usage, unwritten, write_fault, written, written_whole}
use Rattle.bfdd.proofs.running.run.Goals as goal

-- the answer was written

pub returns-in-Ok-clause-decided : goal.returns-in-Ok-clause-decided
returns-in-Ok-clause-decided g c = of_job (g.S.Source.left c.args.source.now) (λ w. IsDecided c.write_answer.result w.status)
    (sym c.in-Some.ensures.value)
    (of_answer (wanted_of c.in-Some.job (g.S.Source.left c.args.source.now))
    (λ w. IsDecided c.write_answer.result w.status) c.in-Ok.ensures.answer
    (decided _ _ _ _ _ _ c.in-Ok.ensures.sound c.write_answer.ensures))

pub returns-in-Ok-clause-done : goal.returns-in-Ok-clause-done
returns-in-Ok-clause-done g c = λ done.
    let P : Wanted → Type 0 = λ w. Appends (g.K.Sink.taken c.args.sink.now) (g.K.Sink.taken c.write_answer.new.sink) w.text in
    of_job (g.S.Source.left c.args.source.now) P (sym c.in-Some.ensures.value)
    (of_answer (wanted_of c.in-Some.job (g.S.Source.left c.args.source.now)) P c.in-Ok.ensures.answer
    (written_whole _ _ _ _ _ _ c.in-Ok.ensures.sound c.write_answer.ensures done))

pub returns-in-Ok-clause-front : goal.returns-in-Ok-clause-front
returns-in-Ok-clause-front g c =
    let P : Wanted → Type 0 = λ w. TookFront (g.K.Sink.taken c.args.sink.now) (g.K.Sink.taken c.write_answer.new.sink) w.text in
    of_job (g.S.Source.left c.args.source.now) P (sym c.in-Some.ensures.value)
    (of_answer (wanted_of c.in-Some.job (g.S.Source.left c.args.source.now)) P c.in-Ok.ensures.answer
    (front _ _ _ _ _ _ c.in-Ok.ensures.sound c.write_answer.ensures))

pub returns-in-Ok-clause-complete : goal.returns-in-Ok-clause-complete
returns-in-Ok-clause-complete g c = λ source_calm sink_calm.
    let P : Wanted → Type 0 = λ w. (c.write_answer.result ≡ w.status) ⊎ (c.write_answer.result ≡ Memory) in
    of_job (g.S.Source.left c.args.source.now) P (sym c.in-Some.ensures.value)
    (of_answer (wanted_of c.in-Some.job (g.S.Source.left c.args.source.now)) P c.in-Ok.ensures.answer
    (settled c.write_answer.result (decided _ _ _ _ _ _ c.in-Ok.ensures.sound c.write_answer.ensures)
    (no_read_fault _ _ _ _ _ _ c.in-Ok.ensures.sound c.write_answer.ensures)
    (λ failed. sink_calm (write_fault _ _ _ _ _ _ c.in-Ok.ensures.sound c.write_answer.ensures failed))))

pub returns-in-Ok-clause-fits : goal.returns-in-Ok-clause-fits
returns-in-Ok-clause-fits g c =
    rw (← c.in-Some.ensures.value) (ended (Some c.in-Some.job) c.write_answer.result c.in-Ok.answer.status
    (decided _ _ _ _ _ _ c.in-Ok.ensures.sound c.write_answer.ensures)
    (no_read_fault _ _ _ _ _ _ c.in-Ok.ensures.sound c.write_answer.ensures)
    (ends_so c.in-Some.job (g.S.Source.left c.args.source.now) (g.S.Source.left c.answer_to_job.new.source)
    (edges_of (g.P.Ports.observed c.args.ports.now) (g.T.Ticker.observed c.args.ticker.now))
    (edges_of (g.P.Ports.observed c.answer_to_job.new.ports)
    (g.T.Ticker.observed c.answer_to_job.new.ticker)) c.in-Ok.answer c.in-Ok.ensures.reports))

pub returns-in-Ok-clause-reported : goal.returns-in-Ok-clause-reported
returns-in-Ok-clause-reported g c = λ memory source.
    let P : Job → Type 0 = λ job. IsReported job (g.S.Source.left c.args.source.now) (g.S.Source.left c.answer_to_job.new.source)
    (edges_of (g.P.Ports.observed c.args.ports.now) (g.T.Ticker.observed c.args.ticker.now))
    (edges_of (g.P.Ports.observed c.answer_to_job.new.ports)
    (g.T.Ticker.observed c.answer_to_job.new.ticker)) (g.K.Sink.taken c.args.sink.now) (g.K.Sink.taken c.write_answer.new.sink)
    (g.K.Sink.faults c.args.sink.now) (g.K.Sink.faults c.write_answer.new.sink) c.write_answer.result in
    let reported : P c.in-Some.job = record {
      w = c.in-Ok.answer;
      reports = c.in-Ok.ensures.reports;
      decided = decided _ _ _ _ _ _ c.in-Ok.ensures.sound c.write_answer.ensures;
      written = written _ _ _ _ _ _ c.in-Ok.ensures.sound c.write_answer.ensures;
    } in
    rw (← c.in-Some.ensures.value) reported

pub returns-in-Ok-clause-finished : goal.returns-in-Ok-clause-finished
returns-in-Ok-clause-finished g c =
    let left = g.S.Source.left c.args.source.now in
    let old = edges_of (g.P.Ports.observed c.args.ports.now) (g.T.Ticker.observed c.args.ticker.now) in
    let new = edges_of (g.P.Ports.observed c.answer_to_job.new.ports) (g.T.Ticker.observed c.answer_to_job.new.ticker) in
    let P : Job → Type 0 = λ job. (Rose (g.S.Source.faults c.args.source.now) (g.S.Source.faults c.answer_to_job.new.source) → ⊥)
    → (Rose (g.K.Sink.faults c.args.sink.now) (g.K.Sink.faults c.write_answer.new.sink) → ⊥)
    → (Rose old.ports.faults new.ports.faults → ⊥) → IfSome left (IsServedToFinish job old new c.write_answer.result) in
    let done : serves c.in-Some.job ≡ true → P c.in-Some.job = λ serving. λ source_calm sink_calm ports_calm.
    finished c.in-Some.job left (g.S.Source.left c.answer_to_job.new.source) old new c.in-Ok.answer
    (settled c.write_answer.result (decided _ _ _ _ _ _ c.in-Ok.ensures.sound c.write_answer.ensures)
    (no_read_fault _ _ _ _ _ _ c.in-Ok.ensures.sound c.write_answer.ensures)
    (λ failed. sink_calm (write_fault _ _ _ _ _ _ c.in-Ok.ensures.sound c.write_answer.ensures failed))) ports_calm c.in-Ok.ensures.reports
    serving in
    rw (← c.in-Some.ensures.value) (of_serving c.in-Some.job P done)

pub returns-in-Ok-clause-end : goal.returns-in-Ok-clause-end
returns-in-Ok-clause-end g c = λ done reading. c.in-Ok.ensures.end
    (done_wanted (decided _ _ _ _ _ _ c.in-Ok.ensures.sound c.write_answer.ensures) done)
    (subst (λ given. is_reading given ≡ true) (sym c.in-Some.ensures.value) reading)

pub returns-in-Ok-clause-usage_alone : goal.returns-in-Ok-clause-usage_alone
returns-in-Ok-clause-usage_alone g c = λ usage. absurd (no_usage _ _ _ _ _ _ c.in-Ok.ensures.sound c.write_answer.ensures usage)

pub returns-in-Ok-clause-bad_text : goal.returns-in-Ok-clause-bad_text
returns-in-Ok-clause-bad_text g c =
    bad_text c.in-Ok.answer c.write_answer.result _ _ _ _ c.in-Ok.ensures.sound
    (decided _ _ _ _ _ _ c.in-Ok.ensures.sound c.write_answer.ensures) (written _ _ _ _ _ _ c.in-Ok.ensures.sound c.write_answer.ensures)

pub returns-in-Ok-clause-unwritten : goal.returns-in-Ok-clause-unwritten
returns-in-Ok-clause-unwritten g c = unwritten _ _ _ _ _ _ c.in-Ok.ensures.sound c.write_answer.ensures

pub returns-in-Ok-clause-read_fault : goal.returns-in-Ok-clause-read_fault
returns-in-Ok-clause-read_fault g c = λ failed. absurd (no_read_fault _ _ _ _ _ _ c.in-Ok.ensures.sound c.write_answer.ensures failed)

pub returns-in-Ok-clause-write_fault : goal.returns-in-Ok-clause-write_fault
returns-in-Ok-clause-write_fault g c = write_fault _ _ _ _ _ _ c.in-Ok.ensures.sound c.write_answer.ensures

pub returns-in-Ok-clause-calm_sink : goal.returns-in-Ok-clause-calm_sink
returns-in-Ok-clause-calm_sink g c = calm _ _ _ _ _ _ c.in-Ok.ensures.sound c.write_answer.ensures

pub returns-in-Ok-clause-broken_off : goal.returns-in-Ok-clause-broken_off
returns-in-Ok-clause-broken_off g c = λ memory.
    inr (
      c.in-Some.job,
      sym c.in-Some.ensures.value,
      c.in-Ok.answer,
      c.in-Ok.ensures.reports,
      front _ _ _ _ _ _ c.in-Ok.ensures.sound c.write_answer.ensures,
    )

pub returns-in-Ok-clause-unopened : goal.returns-in-Ok-clause-unopened
returns-in-Ok-clause-unopened g c =
    let old = edges_of (g.P.Ports.observed c.args.ports.now) (g.T.Ticker.observed c.args.ticker.now) in
    let idle : serves c.in-Some.job ≡ false → (edges_of (g.P.Ports.observed c.answer_to_job.new.ports)
    (g.T.Ticker.observed c.answer_to_job.new.ticker)) ≡ old = λ closed. let same = c.answer_to_job.ensures.idle closed in cc in
    unopened c.in-Some.job (g.S.Source.left c.args.source.now) (g.S.Source.left c.answer_to_job.new.source) c.in-Ok.answer
    c.write_answer.result
    (decided _ _ _ _ _ _ c.in-Ok.ensures.sound c.write_answer.ensures)
    (no_read_fault _ _ _ _ _ _ c.in-Ok.ensures.sound c.write_answer.ensures) idle c.in-Ok.ensures.reports

-- the source failed

pub returns-in-Err-Failed-clause-decided : goal.returns-in-Err-Failed-clause-decided
returns-in-Err-Failed-clause-decided g c = of_all _ _ (λ w. tt)

pub returns-in-Err-Failed-clause-front : goal.returns-in-Err-Failed-clause-front
returns-in-Err-Failed-clause-front g c = of_all _ _ (λ w. took_nothing (g.K.Sink.taken c.args.sink.now) w.text)

-- no memory for the answer

pub returns-in-Err-Memory-clause-front : goal.returns-in-Err-Memory-clause-front
returns-in-Err-Memory-clause-front g c = of_all _ _ (λ w. took_nothing (g.K.Sink.taken c.args.sink.now) w.text)
