use Rattle.bfd_wheel.proofs.Views.{forgotten}
use Rattle.bfd_wheel.proofs.list.forget.Goals as goal

pub returns : goal.returns
returns c = forgotten c.args.t c.args.dues.now c.loop-due.dues c.loop-due.auto.dues c.loop-due-test.false c.loop-due.invariant.done
