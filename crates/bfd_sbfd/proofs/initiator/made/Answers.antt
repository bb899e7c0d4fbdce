-- The due tick that is drawn keeps the variables of the start sound.
use Rattle.bfd_sbfd.proofs.Drawing.{drawn_sound}
use Rattle.bfd_sbfd.proofs.initiator.made.Goals as goal

pub returns-clause-sound : goal.returns-clause-sound
returns-clause-sound c = rw c.drawn.ensures.value (drawn_sound _ c.begins-mark.result _ c.initial-v.ensures.steady)
