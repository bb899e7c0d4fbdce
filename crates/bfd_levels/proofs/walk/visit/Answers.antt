use Rattle.bfd_levels.proofs.Common.{arith, ap, waiting, took_id, waiting_one, waiting-set}
use Rattle.bfd_levels.proofs.walk.visit.Goals as goal

pub push-requires : goal.push-requires
push-requires g c = omega (arith, waiting_one _ c.args.dues.now _ c.requires.movable.linked.inside c.if-due-t.true)

pub returns-then-due-t-clause-took : goal.returns-then-due-t-clause-took
returns-then-due-t-clause-took g c =
    took_id _ c.args.dues.now _ c.args.out.now.items _ _ c.requires.movable.linked.inside c.if-due-t.true c.requires.t c.detach.ensures.dues
    c.push.ensures.items

pub returns-then-due-t-clause-spare : goal.returns-then-due-t-clause-spare
returns-then-due-t-clause-spare g c =
    omega (
      arith,
      ap (λ ds. waiting c.args.t ds) c.detach.ensures.dues,
      waiting-set _ c.args.dues.now _ c.requires.movable.linked.inside c.if-due-t.true c.requires.t,
    )
