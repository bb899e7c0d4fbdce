-- The sessions' laws give the shard's.
use Rattle.bfd_shard.proofs.Expiring.{tick_expires}
use Rattle.bfd_shard.proofs.law.expiry_laws.Goals as goal

pub returns : goal.returns
returns c = tick_expires (record { expires = c.tick_laws.ensures.expires; heard = c.tick_laws.ensures.heard })
