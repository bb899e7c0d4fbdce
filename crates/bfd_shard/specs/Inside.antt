-- What the parts of a shard pass to one another.
use Rattle.std.specs.Prelude.{List}
use Rattle.bfd_session.specs.Kinds.{Running}
use Rattle.bfd_session.specs.Reaching.{Stands}
use Rattle.bfd_shard.specs.declared.entry.ShardEvent.{ShardEvent}
use Rattle.bfd_shard.specs.declared.entry.ShardEvent.TheVariants.{Own, Tick}

-- an event that these sessions may be given
abbrev pub MayCome : List Running → ShardEvent → Type 0
MayCome sessions (Own place moment event) = Stands sessions place event
MayCome sessions (Tick t) = Unit {0}
