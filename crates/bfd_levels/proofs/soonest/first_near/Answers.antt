use Rattle.std.proofs.Common.{length, arith}
use Rattle.bfd_levels.proofs.Firsts.{near_lowest}
use Rattle.bfd_levels.proofs.soonest.first_near.Goals as goal

pub returns-then-not-is_empty-2 : goal.returns-then-not-is_empty-2
returns-then-not-is_empty-2 c = λ least.
    near_lowest (length c.args.dues.now) c.args.now c.loop-tick.tick c.args.dues.now c.args.nodes.now c.args.from c.requires least
    (let from = c.loop-tick.auto.tick in omega (arith, c.max-tick.ensures))
    (let later = c.loop-tick.auto.tick in let before = c.loop-tick-test.true in omega arith)
    (rw (← c.head_at.ensures.slot) (c.is_empty.ensures.empty c.if-not-is_empty.false)) c.loop-tick.invariant
    (rw (← c.head_at-in-loop-tick.ensures.slot) (c.is_empty-in-loop-tick.ensures.some c.if-not-is_empty-2.true))
    (let early = c.requires.early in let before = c.loop-tick-test.true in omega arith)
