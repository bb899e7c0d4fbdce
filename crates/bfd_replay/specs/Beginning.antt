-- What a replay on shards begins with.
use Rattle.std.specs.Prelude.{ℕ, ◌≡◌, List}
use Rattle.std.specs.List.{AllByRecursion}
use Rattle.bfd_sbfd.specs.declared.reflecting.Reflector.{Reflector}
use Rattle.bfd_session.specs.declared.event.SessionConfig.{SessionConfig}
use Rattle.bfd_session.specs.Tables.{members}
use Rattle.bfd_script.specs.declared.line.entries.Line.{Line}
use Rattle.bfd_replay.specs.Happenings.{apart_pieces}
use Rattle.bfd_replay.specs.Planned.{AreQueues, IsMet, happenings}
use Rattle.bfd_replay.specs.declared.plan.plan.Plan.{Plan}

-- the table of the sessions and the reflectors, the queues of so many shards, and the report of the events of no session; the other
-- events are some that the sessions may be given
pub record IsBeginning (configs : List SessionConfig) (pool : List Reflector) (events : List Line) (shards : ℕ) (plan : Plan) : Type 0 where
  pub table : plan.table ≡ members configs pool
  pub queues : AreQueues shards (happenings configs pool events) plan.queues.items
  pub apart : plan.apart ≡ apart_pieces 1 (happenings configs pool events)
  pub met : AllByRecursion (IsMet configs) (happenings configs pool events)
