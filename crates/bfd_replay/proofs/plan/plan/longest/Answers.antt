-- One more queue is no longer.
use Rattle.bfd_replay.proofs.PlanCommon.{rules, [], length, ap, ◌∙◌, arith, get_or_default}
use Rattle.bfd_replay.proofs.Planning.{bound_more}
use Rattle.bfd_replay.proofs.plan.plan.longest.Goals as goal

pub loop-shard-preserved : goal.loop-shard-preserved
loop-shard-preserved c =
    let i = c.loop-shard.invariant in
    let there = c.len.ensures ∙ ap length (c.index.ensures
    ∙ get_or_default c.args.queues.now.items c.loop-shard.shard c.index.result.now [] (search rules)) in
    record {
      all = bound_more i.all (omega (arith, c.greater-most.ensures.second, there)) c.greater-most.ensures.first;
      least = λ most h. c.greater-most.ensures.least most (i.least most h) (omega (arith, h c.loop-shard.shard, there));
    }
