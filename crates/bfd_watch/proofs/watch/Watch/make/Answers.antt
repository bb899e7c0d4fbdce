-- The sessions at the start have the configurations that were given.
use Rattle.bfd_watch.proofs.ChangeLines.{made}
use Rattle.bfd_watch.proofs.watch.Watch.make.Goals as goal

pub returns : goal.returns
returns g c = made c.args.configs.items c.args.limit c.in_ok-shard.ensures.sessions c.in_ok-shard.ensures.journal
