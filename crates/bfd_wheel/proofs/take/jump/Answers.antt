use Rattle.bfd_wheel.proofs.Common.{length, map, arith, due_of, come}
use Rattle.bfd_wheel.proofs.TakenIds.{above_all, left_is}
use Rattle.bfd_wheel.proofs.Order.{times_come, appended_from}
use Rattle.bfd_wheel.proofs.Wheels.{moved}
use Rattle.bfd_wheel.proofs.take.jump.Goals as goal

pub detach_all-requires-clause-ids : goal.detach_all-requires-clause-ids
detach_all-requires-clause-ids c = λ x.
    cc (
      appended_from (length c.items-from.result.now) c.args.out.now.items (come c.args.t (map due_of c.args.dues.now)) c.items.result.now
          (cc) (cc),
      times_come c.args.t c.args.dues.now x (omega arith),
    )

pub returns-clause-wheel : goal.returns-clause-wheel
returns-clause-wheel c = moved c.detach_all.ensures.wheel c.requires.later c.requires.t
    (above_all c.args.t _ c.detach_all.new.dues c.detach_all.auto.dues c.detach_all.ensures.left)

pub returns-clause-dues : goal.returns-clause-dues
returns-clause-dues c = left_is _ c.args.dues.now c.detach_all.new.dues (omega arith) c.detach_all.auto.dues
    c.detach_all.ensures.same_or_gone c.detach_all.ensures.left
