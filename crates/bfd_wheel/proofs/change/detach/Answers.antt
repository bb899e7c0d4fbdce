use Rattle.bfd_wheel.proofs.Common.{arith}
use Rattle.bfd_wheel.proofs.Wheels.{freed}
use Rattle.bfd_wheel.proofs.change.detach.Goals as goal

pub returns-clause-wheel : goal.returns-clause-wheel
returns-clause-wheel c = λ n now w. freed c.unlink.new.nodes w (omega arith) c.requires.linked.due c.unlink.auto.nodes c.unlink.ensures
