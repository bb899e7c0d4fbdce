-- One more pass is joined.
use Rattle.bfd_replay.proofs.WorkerCommon.{◌≡◌, ◌∷◌, [], ap, append_assoc, append-nil, nil_from_length, Work, seen_as}
use Rattle.bfd_replay.proofs.Ordering.{reported_more}
use Rattle.bfd_replay.proofs.Joining.{joined_none, joined_more, next_here}
use Rattle.bfd_replay.proofs.worker.passes.join_all.Goals as goal

pub loop-job-init : goal.loop-job-init
loop-job-init g c = record {
  can = tt;
  ends = tt;
  all = c.into_iter-job-iterator.ensures.into_iter_gives.0;
  joined = joined_none 200000 c.args.first.now c.requires.of c.requires.there c.requires.first;
  reported = cc;
}

pub join-requires-clause-of : goal.join-requires-clause-of
join-requires-clause-of g c = (
  c.loop-job.invariant.joined.of,
  rw (ap (λ (x : Work). x.pass) c.job.view_is) (c.requires.others _ _ (next_here c.loop-job.yielded c.next.new.self.rest.items c.in-Some.job
      (cc (c.in-Some.ensures.steps.0)))).of,
)

pub join-requires-clause-there : goal.join-requires-clause-there
join-requires-clause-there g c = (
  c.loop-job.invariant.joined.there,
  rw (ap (λ (x : Work). x.pass) c.job.view_is) (c.requires.others _ _ (next_here c.loop-job.yielded c.next.new.self.rest.items c.in-Some.job
      (cc (c.in-Some.ensures.steps.0)))).there,
)

pub join-requires-clause-numbers : goal.join-requires-clause-numbers
join-requires-clause-numbers g c = (
  c.loop-job.invariant.joined.number,
  rw (ap (λ (x : Work). x.pass) c.job.view_is) (c.requires.others _ _ (next_here c.loop-job.yielded c.next.new.self.rest.items c.in-Some.job
      (cc (c.in-Some.ensures.steps.0)))).number,
)

pub loop-job-preserved : goal.loop-job-preserved
loop-job-preserved g c = let i = c.loop-job.invariant in
    record {
      can = tt;
      ends = tt;
      all = cc (append_assoc c.loop-job.yielded (c.in-Some.job ∷ []) c.next.new.self.rest.items, c.in-Some.ensures.steps.0);
      joined = joined_more i.joined (c.requires.others _ _ (next_here c.loop-job.yielded c.next.new.self.rest.items c.in-Some.job
          (cc (c.in-Some.ensures.steps.0)))) c.join.ensures.of c.join.ensures.there c.join.ensures.number
          (λ s h. rw (← ap (λ (x : Work). x.pass) c.job.view_is) (c.join.ensures.joined s h));
      reported = reported_more (seen_as (λ parts. parts.items)) (λ x. x.reported) c.loop-job.worker_parts.items c.loop-job.yielded
          i.reported
          (ap (λ x. x.reported) c.job.view_is) c.in_ok-push.ensures.items;
    }

pub returns-clause-joined : goal.returns-clause-joined
returns-clause-joined g c =
    let whole : c.loop-job.yielded ≡ c.args.jobs.items =
    cc (append-nil c.loop-job.yielded, nil_from_length c.loop-job.job-iterator.rest.items (cc (c.in-None.ensures.steps.0))) in
    rw (← whole) c.loop-job.invariant.joined

pub returns-clause-reported : goal.returns-clause-reported
returns-clause-reported g c = let i = c.loop-job.invariant in
    let whole : c.loop-job.yielded ≡ c.args.jobs.items =
    cc (append-nil c.loop-job.yielded, nil_from_length c.loop-job.job-iterator.rest.items (cc (c.in-None.ensures.steps.0))) in
    cc
