use Rattle.bfd_levels.proofs.Common.{length, arith}
use Rattle.bfd_levels.proofs.Midway.{still_down}
use Rattle.bfd_levels.proofs.Ticks.{overdue_left}
use Rattle.bfd_levels.proofs.Turns.{still_begins, still_ends, still_loads}
use Rattle.bfd_levels.proofs.tick.overdue.Goals as goal

pub walk-requires-clause-placed : goal.walk-requires-clause-placed
walk-requires-clause-placed g c = still_begins (length c.args.dues.now) c.args.now 5 c.args.dues.now c.args.nodes.now c.requires.placed

pub walk-requires-clause-down : goal.walk-requires-clause-down
walk-requires-clause-down g c = λ due above here. still_down (length c.args.dues.now) c.args.now 5 due here

pub returns-clause-placed : goal.returns-clause-placed
returns-clause-placed g c = still_ends (length c.args.dues.now) c.args.now 6 c.walk.new.dues c.walk.new.nodes c.walk.ensures.placed

pub returns-clause-left : goal.returns-clause-left
returns-clause-left g c = overdue_left c.walk.new.dues c.requires.back c.walk.ensures.left

pub returns-clause-cost : goal.returns-clause-cost
returns-clause-cost g c =
    omega (
      arith,
      c.walk.ensures.cost,
      still_loads (length c.args.dues.now) c.args.now 6 c.walk.new.dues c.walk.new.nodes,
      still_loads (length c.args.dues.now) c.args.now 5 c.args.dues.now c.args.nodes.now,
    )
