-- Threads may share an engine, where its timers may go to another thread.
use denote.RattleType.{RattleType}
use denote.Param.Send.{sendable, IsSync, IsSend, view_sync}
use denote.Param.SendFields.{declared_sync}
use denote.Struct.Declared as S
use denote.Struct.Tuple.{tuple_type}
use mir.Syntax.{Dict}
use Rattle.bfd_engine.proofs.Common.{[], ◌∷◌}
use Rattle.std.proofs.Crossing.{crosses, Vec-sync}
use Rattle.bfd_ghost.proofs.list.GhostList.TheSendSync as listed
use Rattle.bfd_demux.specs.contracts.row.Row
use Rattle.bfd_demux.specs.contracts.demux.Demux
use Rattle.bfd_demux.specs.contracts.demux.Demux.TheInside as inside
use Rattle.std.specs.contracts.option.Option
use Rattle.bfd_packet.specs.contracts.arrival.Port
use Rattle.bfd_demux.specs.contracts.name.Name
use Rattle.bfd_demux.specs.contracts.row.RowKind
use denote.Builtin.{u32}
use Rattle.bfd_demux.proofs.guess.Ends.TheSendSync as ends
use Rattle.bfd_demux.proofs.name.Name.TheSendSync as name
use Rattle.bfd_demux.proofs.row.RowKind.TheSendSync as kind
use Rattle.bfd_sbfd.proofs.reflecting.Reflector.TheSendSync as reflector
use Rattle.bfd_session.specs.contracts.event.SessionConfig
use Rattle.bfd_session.specs.contracts.table.Roster
use Rattle.bfd_session.specs.contracts.table.Roster.TheInside as roster
use Rattle.bfd_session.specs.contracts.table.Table
use Rattle.bfd_session.specs.contracts.table.Table.TheInside as table
use Rattle.bfd_shard.specs.contracts.entry.Entry
use Rattle.bfd_turn.specs.contracts.lock.TurnLock
use Rattle.bfd_turn.proofs.lock.TurnLock.TheSendSync as turn
use Rattle.bfd_wheel.specs.declared.form.Timers.{Ghosts}
use Rattle.bfd_engine.specs.contracts.locked.Base
use Rattle.bfd_engine.specs.contracts.locked.Locked as Kept
use Rattle.bfd_engine.specs.contracts.locked.LockedRecorded.TheImpl.{ghosts}
use Rattle.bfd_engine.specs.contracts.engine.Engine.{the_row}
use Rattle.bfd_engine.specs.contracts.engine.Engine.TheInside.{the_type}
use Rattle.bfd_engine.proofs.locked.Locked.TheSendSync as kept

-- a table owns lists of plain values, and of its rows nothing
demux_sync : IsSync Demux.the_row
demux_sync = view_sync _ _ _ _ _ (declared_sync inside.the_type (
  listed.the_sync Row.the_row,
  (
    Vec-sync _ (declared_sync (tuple_type (Name.the_row ∷ Option.the_row Port.the_row ∷ []))
        (name.the_sync, (search (sendable, crosses) depth 20, tt))),
    (
      Vec-sync _ (declared_sync (tuple_type (RowKind.the_row ∷ u32 ∷ [])) (kind.the_sync, (search (sendable, crosses) depth 20, tt))),
      (search (sendable, crosses) depth 20, (ends.the_sync, (ends.the_sync, tt))),
    ),
  ),
))

roster_sync : IsSync Roster.the_row
roster_sync = view_sync _ _ _ _ _ (declared_sync roster.the_type
    (search (sendable, crosses) depth 20, (listed.the_sync SessionConfig.the_row, tt)))

pub table_sync : IsSync Table.the_row
table_sync = view_sync _ _ _ _ _ (declared_sync table.the_type (demux_sync, (roster_sync, (Vec-sync _ reflector.the_sync, tt))))

module _ (W : RattleType) (g : Ghosts W.Denot) (d e : Dict) where
  abbrev lock : RattleType
  lock = TurnLock.the_row (Kept.the_row W g) Entry.the_row Base.the_row (ghosts W g d e)

  lock_sync : IsSend W → IsSync lock
  lock_sync w = turn.the_sync (Kept.the_row W g) Entry.the_row Base.the_row (ghosts W g d e) (kept.the_send W g w)

  inside_sync : IsSend W → IsSync (S.row (the_type W g))
  inside_sync w = declared_sync (the_type W g) (
    Vec-sync lock (lock_sync w),
    (table_sync, (search (sendable, crosses) depth 20, (search (sendable, crosses) depth 20, tt))),
  )

  pub engine_sync : IsSend W → IsSync (the_row W g)
  engine_sync w = view_sync _ _ _ _ _ (inside_sync w)
