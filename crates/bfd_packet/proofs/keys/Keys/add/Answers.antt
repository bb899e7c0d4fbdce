-- The list with the new key stays a chain of keys.
use Rattle.bfd_packet.proofs.KeyRules.{gains_key}
use Rattle.bfd_packet.proofs.keys.Keys.add.Goals as goal

pub invariant_of-self : goal.invariant_of-self
invariant_of-self c = rw c.push.ensures (gains_key _ _ _ c.self.view_is c.self.invariant c.requires.room c.requires.fresh c.requires.fits)
