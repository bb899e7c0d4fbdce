-- The state machine makes plain variables of plain ones.
use Rattle.bfd_sbfd.proofs.receiving.moves_state.Goals as goal

pub moves-requires-clause-plain : goal.moves-requires-clause-plain
moves-requires-clause-plain c = c.machine-after.ensures.plain c.args.config.now c.requires.steady.plain
