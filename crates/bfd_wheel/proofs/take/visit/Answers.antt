use Rattle.bfd_wheel.proofs.Common.{arith, ap, waiting}
use Rattle.bfd_wheel.proofs.TakenIds.{took_id, waiting_one, waiting-set}
use Rattle.bfd_wheel.proofs.take.visit.Goals as goal

pub push-requires : goal.push-requires
push-requires c = omega (arith, waiting_one _ c.args.dues.now _ c.requires.linked.inside c.if-dues-id.true)

pub returns-then-dues-id-clause-took : goal.returns-then-dues-id-clause-took
returns-then-dues-id-clause-took c = took_id _ c.args.dues.now _ c.args.out.now.items _ _ c.requires.linked.inside c.if-dues-id.true
    c.requires.t c.detach.ensures.dues c.push.ensures.items

pub returns-then-dues-id-clause-spare : goal.returns-then-dues-id-clause-spare
returns-then-dues-id-clause-spare c =
    omega (
      arith,
      ap (λ ds. waiting c.args.t ds) c.detach.ensures.dues,
      waiting-set _ c.args.dues.now _ c.requires.linked.inside c.if-dues-id.true c.requires.t,
    )
