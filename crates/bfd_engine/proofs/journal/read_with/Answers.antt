-- What was copied is what the shard's history has from there on.
use Rattle.bfd_engine.proofs.Copies.{given_from}
use Rattle.bfd_engine.proofs.journal.read_with.Goals as goal

pub returns-in-Ok-copied-clause-given : goal.returns-in-Ok-copied-clause-given
returns-in-Ok-copied-clause-given g c =
    given_from c.args.from c.deref-shard.result.now.journal c.sessions.ensures.kept.history (cc (c.in-Ok.ensures.1.base_is))
    (cc (c.in-Ok-copied.ensures))
