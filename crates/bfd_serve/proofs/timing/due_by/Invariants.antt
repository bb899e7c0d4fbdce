use Rattle.bfd_serve.proofs.Common.{◌≡◌, ◌+◌, drop, orders_due}
use Rattle.bfd_serve.proofs.timing.due_by.Given as goal

abbrev pub invariant-loop-at : goal.invariant-loop-at
invariant-loop-at l = orders_due l.tick l.orders ≡ l.at + orders_due l.tick (drop l.at l.orders)
