-- A command that isn't refused keeps the variables sound.
use Rattle.bfd_mp.proofs.commanding.commands_tail.Goals as goal

pub returns-clause-sound : goal.returns-clause-sound
returns-clause-sound c = rw c.changes.ensures.vars (c.tail_done-after.ensures.sound c.args.config.now c.requires.sound)
