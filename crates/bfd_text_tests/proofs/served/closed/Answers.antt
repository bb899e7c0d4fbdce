-- The sessions at the start have the configurations that were given.
use Rattle.bfd_session.proofs.Starting.{started_configs}
use Rattle.bfd_text_tests.proofs.served.closed.Goals as goal

pub loop-row-init : goal.loop-row-init
loop-row-init g c = cc (c.in_ok-shard.ensures.sessions, started_configs c.args.configs.items)
