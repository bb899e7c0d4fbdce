-- What is sealed is heard by a receiver with the same keys.
use Rattle.bfd_auth.proofs.Acceptance.{hears_sealed}
use Rattle.bfd_auth.proofs.sealing.seal.Goals as goal

pub returns-clause-heard : goal.returns-clause-heard
returns-clause-heard c = λ receiver timely. hears_sealed c.args.keys.now receiver c.args.c.now _ _ _
    c.packet.ensures.text c.packet.ensures.fits c.packet.ensures.range c.packet.ensures.named timely
