-- One more order is due, or none.
use Rattle.bfd_serve.proofs.Common.{rules, arith}
use Rattle.bfd_serve.proofs.Ordering.{due_next, due_stop, due_none}
use Rattle.bfd_serve.proofs.timing.due_by.Goals as goal

pub loop-at-init : goal.loop-at-init
loop-at-init c = omega arith

pub loop-at-preserved : goal.loop-at-preserved
loop-at-preserved c = omega (
  arith,
  c.loop-at.invariant,
  due_next c.args.tick _ c.args.orders.now c.index-orders-at.result c.loop-at-test.true (search rules) (cc),
)

pub returns-then-not-is_due-clause-value : goal.returns-then-not-is_due-clause-value
returns-then-not-is_due-clause-value c = omega (
  arith,
  c.loop-at.invariant,
  due_stop c.args.tick _ c.args.orders.now c.index-orders-at.result c.loop-at-test.true (search rules) (cc),
)

pub returns-clause-value : goal.returns-clause-value
returns-clause-value c = omega (
  arith,
  c.loop-at.invariant,
  c.loop-at-test.false,
  due_none c.args.tick c.loop-at.at c.args.orders.now (omega arith),
  c.loop-at.auto.at-end,
)
