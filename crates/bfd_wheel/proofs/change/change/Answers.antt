use Rattle.bfd_wheel.proofs.Common.{set-set, never}
use Rattle.bfd_wheel.proofs.Wheels.{linked}
use Rattle.bfd_wheel.proofs.change.change.Goals as goal

pub free-requires-clause-linked : goal.free-requires-clause-linked
free-requires-clause-linked g c = linked c.requires.wheel c.requires.id

pub returns-clause-dues : goal.returns-clause-dues
returns-clause-dues g c = cc (set-set c.args.dues.now c.args.id never c.args.due)
