use Rattle.std.proofs.Common.{arith}
use Rattle.bfd_lanes.proofs.Lower.{lanes_and_rest}
use Rattle.bfd_lanes.proofs.lowest.lowest_of.Goals as goal

pub returns : goal.returns
returns c = lanes_and_rest c.loop-block.lanes c.args.dues.now (omega arith) c.loop-block.invariant.value c.lower.ensures c.lower-2.ensures
