-- What each thread planned is what its run is.
use Rattle.bfd_replay.proofs.PlanCommon.{Ok, IsPlanOf}
use Rattle.bfd_engine.proofs.States.{made_at}
use Rattle.bfd_replay.proofs.plan.plan.plan_each.Goals as goal

pub returns-clause-each : goal.returns-clause-each
returns-clause-each g c = λ i r p h.
    let j = (c.in_ok-done.ensures.each i (Ok p) h).1 in
    rw (j.job_is r) (made_at (IsPlanOf c.args.table.now.configs c.args.table.now.pool c.args.shards j.job) c.in_ok-plans.plans.items i p
    c.in_ok-plans.ensures j.call.met)
