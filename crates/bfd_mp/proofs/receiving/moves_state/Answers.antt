-- The state machine keeps the variables sound.
use Rattle.bfd_mp.proofs.receiving.moves_state.Goals as goal

pub returns-clause-sound : goal.returns-clause-sound
returns-clause-sound c = rw c.changes.ensures.vars (c.machine-after.ensures.sound c.args.config.now c.requires.sound)
