-- The script is one that the grammar gives.
use Rattle.std.proofs.Common.{rules}
use Rattle.bfd_load.proofs.Whole.{made}
use Rattle.bfd_load.proofs.generating.generate.Goals as goal

pub returns-clause-sound : goal.returns-clause-sound
returns-clause-sound c = made c.args.seed c.new.result.items c.requires.sessions c.requires.ticks c.in_ok-configs.ensures (search rules)
    c.in_ok-events.ensures
