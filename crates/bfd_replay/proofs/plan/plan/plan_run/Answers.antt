-- One more line is planned.
use Rattle.bfd_replay.proofs.PlanCommon.{length-map}
use Rattle.bfd_replay.proofs.Planning.{plan_more}
use Rattle.bfd_replay.proofs.plan.plan.plan_run.Goals as goal

pub lines-preserved : goal.lines-preserved
lines-preserved c = record {
  planned = plan_more c.in-Some.ensures.first c.route_of.ensures.route c.route_of.ensures.met
      (cc (length-map c.take_in.new.queues.items (λ q. q.items), length-map c.lines.queues.items (λ q. q.items)))
      c.in_ok-take_in.ensures.planned c.lines.invariant.planned;
}
