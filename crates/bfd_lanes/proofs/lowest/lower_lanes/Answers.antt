use Rattle.bfd_lanes.proofs.Lower.{lanes_stay}
use Rattle.bfd_lanes.proofs.lowest.lower_lanes.Goals as goal

pub returns-clause-width : goal.returns-clause-width
returns-clause-width c = lanes_stay c.args.lanes c.args.dues.now c.args.at c.requires.width c.requires.block
