-- The due tick that is drawn keeps the variables sound.
use Rattle.bfd_sbfd.proofs.Drawing.{drawn_sound}
use Rattle.bfd_sbfd.proofs.finishing.finish.Goals as goal

pub returns-clause-sound : goal.returns-clause-sound
returns-clause-sound c = rw c.drawn.ensures.value (drawn_sound _ c.extra.new.mark _ c.extra.ensures.steady)
