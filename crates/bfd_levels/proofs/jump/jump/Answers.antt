use Rattle.bfd_levels.proofs.Common.{length, map, refl, arith, due_of, come, above_all, left_is, times_come, appended_from}
use Rattle.bfd_levels.proofs.jump.jump.Goals as goal

pub detach_all-requires-clause-ids : goal.detach_all-requires-clause-ids
detach_all-requires-clause-ids g c = λ x.
    cc (
      appended_from (length c.items-from.result.now) c.args.out.now.items (come c.args.t (map due_of c.args.dues.now)) c.items.result.now
          (cc) (cc),
      times_come c.args.t c.args.dues.now x (omega arith),
    )

pub settle_all-requires-clause-above : goal.settle_all-requires-clause-above
settle_all-requires-clause-above g c = above_all c.args.t (length c.detach_all.new.dues) c.detach_all.new.dues refl
    c.detach_all.ensures.left

pub returns-clause-dues : goal.returns-clause-dues
returns-clause-dues g c = left_is _ c.args.dues.now c.detach_all.new.dues (omega arith) c.detach_all.auto.dues
    c.detach_all.ensures.same_or_gone c.detach_all.ensures.left
