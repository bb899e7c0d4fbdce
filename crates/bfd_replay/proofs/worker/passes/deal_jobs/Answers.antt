-- One worker's job more.
use Rattle.bfd_replay.proofs.WorkerCommon.{◌∙◌, arith, refl}
use Rattle.bfd_replay.proofs.Joining.{jobs_none, jobs_more, own_of_left}
use Rattle.bfd_replay.proofs.worker.passes.deal_jobs.Goals as goal

pub loop-at-init : goal.loop-at-init
loop-at-init g c = record {
  jobs = jobs_none c.args.queues.items c.args.workers c.requires.new c.new-jobs.ensures.items;
  long = refl;
  left = λ s h. refl;
}

pub loop-at-preserved : goal.loop-at-preserved
loop-at-preserved g c = let i = c.loop-at.invariant in let new = c.in_ok-pass.ensures.other in
    let own = own_of_left c.args.workers c.loop-at.at c.args.queues.items c.loop-at.queues.items c.in_ok-own.own.items
    (cc) (λ s e. i.left s (omega (arith, e))) c.in_ok-own.ensures.own in
    record {
      jobs = jobs_more c.args.engine.now c.args.queues.items c.args.workers c.loop-at.at c.loop-at.first c.split.new.first
          c.loop-at.jobs.items c.push.new.self.items
          _ i.jobs c.in_ok-push.ensures.items c.split.ensures.of c.split.ensures.there c.split.ensures.number c.split.ensures.used new.0
          new.1 new.2 c.in_ok-pass.ensures.parted own;
      long = c.in_ok-own.ensures.long ∙ i.long;
      left = λ s h. c.in_ok-own.ensures.others s (λ e. absurd (omega (arith, h, e))) ∙ i.left s (omega (arith, h));
    }
