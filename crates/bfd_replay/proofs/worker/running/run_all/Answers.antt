-- All workers' jobs, done, joined and closed.
use Rattle.bfd_replay.proofs.WorkerCommon.{◌∙◌, map, sym, arith}
use Rattle.bfd_replay.proofs.Endings.{all_closed, all_ready, fine_ends, at_end, done_jobs, each_joined, joining, states, reported_all}
use Rattle.bfd_replay.proofs.worker.running.run_all.Goals as goal

pub work_all-requires-clause-ready : goal.work_all-requires-clause-ready
work_all-requires-clause-ready g c κs within = λ i d inside.
    all_ready c.args.engine c.args.queues.items c.args.workers c.args.workers _ c.in_ok-jobs.jobs.items c.requires.locks.0
    c.requires.locks.1
    c.requires.long c.requires.met c.in_ok-jobs.ensures i d inside

pub join_all-requires-clause-others : goal.join_all-requires-clause-others
join_all-requires-clause-others g c =
    λ i w e. joining (λ s. omega (arith, c.requires.short s, c.requires.small))
    (done_jobs c.work_all.new.jobs.items c.requires.long c.in_ok-jobs.ensures c.work_all.ensures.long c.work_all.ensures.worked i w e)

pub close-states-requires-clause-joined : goal.close-states-requires-clause-joined
close-states-requires-clause-joined g c =
    each_joined (at_end c.requires.workers.0 c.requires.workers.1 c.requires.long c.in_ok-jobs.ensures c.work_all.ensures.long
    c.work_all.ensures.worked c.in_ok-worker_parts.ensures.joined)

pub all_parts-requires : goal.all_parts-requires
all_parts-requires g c =
    fine_ends (all_closed c.requires.workers.0 c.requires.workers.1 c.requires.long c.in_ok-jobs.ensures
    c.work_all.ensures.long c.work_all.ensures.worked c.in_ok-worker_parts.ensures.joined c.close-states.ensures.closed c.requires.short
    c.requires.small) c.in_ok-worker_parts.ensures.reported

pub returns-clause-states : goal.returns-clause-states
returns-clause-states g c =
    states (map (λ parts. parts.items) c.in_ok-all.all.items)
    (all_closed c.requires.workers.0 c.requires.workers.1 c.requires.long c.in_ok-jobs.ensures
    c.work_all.ensures.long c.work_all.ensures.worked c.in_ok-worker_parts.ensures.joined c.close-states.ensures.closed c.requires.short
    c.requires.small) (sym c.in_ok-worker_parts.ensures.reported ∙ c.in_ok-all.ensures)

pub returns-clause-reported : goal.returns-clause-reported
returns-clause-reported g c =
    reported_all (map (λ parts. parts.items) c.in_ok-all.all.items)
    (all_closed c.requires.workers.0 c.requires.workers.1 c.requires.long c.in_ok-jobs.ensures
    c.work_all.ensures.long c.work_all.ensures.worked c.in_ok-worker_parts.ensures.joined c.close-states.ensures.closed c.requires.short
    c.requires.small) (sym c.in_ok-worker_parts.ensures.reported ∙ c.in_ok-all.ensures)
