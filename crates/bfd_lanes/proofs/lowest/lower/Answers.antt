use Rattle.std.proofs.Common.{arith}
use Rattle.bfd_lanes.proofs.Lower.{at_end}
use Rattle.bfd_lanes.proofs.lowest.lower.Goals as goal

pub returns : goal.returns
returns c = cc (at_end _ c.loop-due.due-index c.args.dues.now c.loop-due.invariant.fits (omega arith))
