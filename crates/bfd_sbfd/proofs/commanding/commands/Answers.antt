-- A command that isn't refused makes plain variables of plain ones.
use Rattle.bfd_sbfd.proofs.commanding.commands.Goals as goal

pub moves-requires-clause-plain : goal.moves-requires-clause-plain
moves-requires-clause-plain c = c.done-after.ensures.plain c.args.config.now c.requires.steady.plain
