-- The due tick that is drawn keeps the variables sound.
use Rattle.bfd_mp.proofs.Drawing.{drawn_sound}
use Rattle.bfd_mp.proofs.finishing.drawn_anew.Goals as goal

pub returns-clause-sound : goal.returns-clause-sound
returns-clause-sound c = rw c.drawn.ensures.value (drawn_sound c.args.mark.now c.requires.steady)
