-- Each call's result stands at its job's place.
use Rattle.std.proofs.Common.{◌≡◌, length, [], ◌∷◌, append-nil, append_assoc, ◌∙◌, ap}
use Rattle.std.proofs.lemmas.List.{nil_from_length}
use Rattle.std.proofs.lemmas.Slice.Zip.{AllZip-long}
use Rattle.bfd_engine.proofs.Calls.{gives_each, zip_more}
use Rattle.bfd_engine.proofs.beside.in_turn.Goals as goal

pub loop-job-preserved : goal.loop-job-preserved
loop-job-preserved g c = record {
  can = tt;
  finite = tt;
  all = cc (
    append_assoc c.loop-job.yielded (c.in-Some.job ∷ []) c.next.new.self.rest.items,
    c.in-Some.ensures.steps.0,
    c.loop-job.invariant.all,
  );
  given = rw c.in_ok-push.ensures.items (zip_more _ c.loop-job.yielded c.loop-job.given.items c.loop-job.invariant.given
      (record { met = c.f.ensures }));
}

pub returns-clause-long : goal.returns-clause-long
returns-clause-long g c =
    let whole : c.loop-job.yielded ≡ c.args.jobs.items =
    cc (
      append-nil c.loop-job.yielded,
      nil_from_length c.loop-job.job-iterator.rest.items (cc (c.in-None.ensures.steps.0)),
      c.loop-job.invariant.all,
    ) in
    AllZip-long _ c.loop-job.yielded c.loop-job.given.items c.loop-job.invariant.given ∙ ap length whole

pub returns-clause-each : goal.returns-clause-each
returns-clause-each g c =
    let whole : c.loop-job.yielded ≡ c.args.jobs.items =
    cc (
      append-nil c.loop-job.yielded,
      nil_from_length c.loop-job.job-iterator.rest.items (cc (c.in-None.ensures.steps.0)),
      c.loop-job.invariant.all,
    ) in
    gives_each g.F.Fn c.args.f.now c.args.jobs.items c.loop-job.given.items (rw (← whole) c.loop-job.invariant.given)
