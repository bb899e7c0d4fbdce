-- The sessions stand at the start.
use Rattle.bfd_shard.proofs.Setting.{starts_of}
use Rattle.bfd_shard.proofs.shard.ShardState.make.Goals as goal

pub at_start-requires-clause-start : goal.at_start-requires-clause-start
at_start-requires-clause-start g c = starts_of _ c.in_ok-group.ensures.sessions
