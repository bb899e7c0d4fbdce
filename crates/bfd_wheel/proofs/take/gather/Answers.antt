use Rattle.bfd_wheel.proofs.Common.{arith}
use Rattle.bfd_wheel.proofs.TakenIds.{waiting-le, none_waits, left_is}
use Rattle.bfd_wheel.proofs.Order.{ordered}
use Rattle.bfd_wheel.proofs.Swept.{moved_on}
use Rattle.bfd_wheel.proofs.take.gather.Goals as goal

pub sweep-requires-clause-room : goal.sweep-requires-clause-room
sweep-requires-clause-room c = omega (arith, waiting-le c.args.t c.args.dues.now)

pub returns-clause-wheel : goal.returns-clause-wheel
returns-clause-wheel c = rw c.max.ensures (moved_on c.sweep.ensures.wheel c.requires.t c.sweep.ensures.left)

pub returns-clause-items : goal.returns-clause-items
returns-clause-items c = ordered _ _ _ _ _ _ c.sort_from.new.self.items (omega arith) c.sweep.ensures.took
    (none_waits _ _ c.sweep.new.dues c.requires.t c.sweep.auto.dues c.sweep.ensures.left)
    (cc) c.sort_from.ensures.front c.sort_from.ensures.rest c.sort_from.ensures.sorted

pub returns-clause-dues : goal.returns-clause-dues
returns-clause-dues c = left_is _ c.args.dues.now c.sweep.new.dues (omega arith) c.sweep.auto.dues c.sweep.ensures.took.same_or_gone
    (none_waits _ _ c.sweep.new.dues c.requires.t c.sweep.auto.dues c.sweep.ensures.left)
