use Rattle.bfd_levels.proofs.Common.{arith}
use Rattle.bfd_levels.proofs.Jumps.{jump_moves, jump_passes, jump_loads}
use Rattle.bfd_levels.proofs.jump.settle.Goals as goal

pub returns-then-due-clause-placed : goal.returns-then-due-clause-placed
returns-then-due-clause-placed g c = jump_moves c.args.now c.args.t c.relink.new.nodes c.requires.placed c.requires.id c.if-due.true
    c.relink.auto.nodes
    (rw (← c.head_of.ensures.place) c.relink.ensures.links)

pub returns-then-due-clause-cost : goal.returns-then-due-clause-cost
returns-then-due-clause-cost g c = omega (
  arith,
  jump_loads c.args.id c.args.dues.now c.requires.later c.requires.above,
  c.relink.ensures.cost,
)

pub returns-else-due-clause-placed : goal.returns-else-due-clause-placed
returns-else-due-clause-placed g c = jump_passes c.args.now c.args.t c.args.id c.requires.placed (omega arith)

pub returns-else-due-clause-cost : goal.returns-else-due-clause-cost
returns-else-due-clause-cost g c = omega (arith, jump_loads c.args.id c.args.dues.now c.requires.later c.requires.above)
