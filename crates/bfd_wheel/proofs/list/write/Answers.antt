use Rattle.bfd_wheel.proofs.Common.{map-set, due_of}
use Rattle.bfd_wheel.proofs.list.write.Goals as goal

pub returns : goal.returns
returns c = map-set due_of c.args.dues.now c.args.id c.args.number
