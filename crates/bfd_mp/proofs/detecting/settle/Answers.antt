-- Detection keeps the variables sound.
use Rattle.bfd_mp.proofs.detecting.settle.Goals as goal

pub returns-then-has_come-clause-sound : goal.returns-then-has_come-clause-sound
returns-then-has_come-clause-sound c = rw c.changes.ensures.vars (c.silenced-after.ensures.sound c.args.config.now c.requires.sound)
