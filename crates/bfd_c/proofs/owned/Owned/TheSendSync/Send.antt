-- What a handle keeps goes to another thread as the box would.
use mir.Raw.{raw}
use base.Shift.{Keyless}
use denote.Memory.{lone}
use Rattle.bfd_c.proofs.Common.{Ptr, Option, None, Some, tuple_type, u32, exits_of, shape, fields, to}
use denote.Param.Send.{IsSend, AllSend, owning_send, struct_send, view_send, sendable}
use denote.Param.SendFields.{declared_send}
use Rattle.std.specs.Prelude.{[], ◌∷◌}
use Rattle.std.specs.Global.{Global}
use Rattle.std.specs.contracts.option.Option as Choice
use Rattle.std.proofs.Crossing as heap
use Rattle.std.proofs.Crossing.{crosses, Vec-send}
use Rattle.std_alloc.proofs.SendSync.{quiet, lies}
use Rattle.std_heap.proofs.Global.TheSendSync as handle
use Rattle.bfd_packet.specs.contracts.arrival.Port
use Rattle.bfd_rules.proofs.outputs.Outs.TheSendSync as outs
use Rattle.bfd_sbfd.proofs.reflecting.Reflector.TheSendSync as reflector
use Rattle.bfd_ghost.proofs.list.GhostList.TheSendSync as listed
use Rattle.bfd_demux.specs.contracts.row.Row
use Rattle.bfd_session.specs.contracts.event.SessionConfig
use Rattle.bfd_demux.specs.contracts.demux.Demux
use Rattle.bfd_demux.specs.contracts.demux.Demux.TheInside as selecting
use Rattle.bfd_demux.specs.contracts.name.Name
use Rattle.bfd_demux.specs.contracts.row.RowKind
use Rattle.bfd_demux.proofs.guess.Ends.TheSendSync as ends
use Rattle.bfd_demux.proofs.name.Name.TheSendSync as name
use Rattle.bfd_demux.proofs.row.RowKind.TheSendSync as kind
use Rattle.bfd_session.specs.contracts.table.Roster
use Rattle.bfd_session.specs.contracts.table.Roster.TheInside as roster
use Rattle.bfd_session.specs.contracts.table.Table
use Rattle.bfd_session.specs.contracts.table.Table.TheInside as table
use Rattle.bfd_levels.specs.contracts.by_count.ByCount
use Rattle.bfd_levels.specs.contracts.by_count.ByCountTimers.TheImpl.{ghosts}
use Rattle.bfd_levels.proofs.by_count.ByCount.TheSendSync as timers
use Rattle.bfd_shard.proofs.sessions.Sessions.TheSendSync as sessions
use Rattle.bfd_session.proofs.event.Answer.TheSendSync as answer
use Rattle.bfd_instance.specs.contracts.instance.Instance as World
use Rattle.bfd_instance.specs.contracts.instance.Instance.TheInside as world
use Rattle.bfd_c.proofs.records.boxed.BoxedRecord.TheSendSync as boxed
use Rattle.bfd_c.specs.contracts.records.recorded.Recorded
use Rattle.bfd_c.specs.contracts.records.recorded.Recorded.TheInside as recorded
use Rattle.bfd_c.specs.Owning.{kept_owns}
use Rattle.bfd_c.specs.contracts.engine.Engine as Held
use Rattle.bfd_c.specs.contracts.engine.Engine.TheInside as inside
use Rattle.bfd_c.specs.contracts.owned.Owned.{the_row, the_type}

-- a table owns lists of plain values, and of its rows nothing
demux_send : IsSend Demux.the_row
demux_send = view_send _ _ _ _ _ (declared_send selecting.the_type (
  listed.the_send Row.the_row,
  (
    Vec-send _ (declared_send (tuple_type (Name.the_row ∷ Choice.the_row Port.the_row ∷ []))
        (name.the_send, (search (sendable, crosses) depth 20, tt))),
    (
      Vec-send _ (declared_send (tuple_type (RowKind.the_row ∷ u32 ∷ [])) (kind.the_send, (search (sendable, crosses) depth 20, tt))),
      (search (sendable, crosses) depth 20, (ends.the_send, (ends.the_send, tt))),
    ),
  ),
))

roster_send : IsSend Roster.the_row
roster_send = view_send _ _ _ _ _ (declared_send roster.the_type
    (search (sendable, crosses) depth 20, (listed.the_send SessionConfig.the_row, tt)))

table_send : IsSend Table.the_row
table_send = view_send _ _ _ _ _ (declared_send table.the_type (demux_send, (roster_send, (Vec-send _ reflector.the_send, tt))))

world_send : IsSend (World.the_row ByCount.the_row ghosts)
world_send = view_send _ _ _ _ _ (declared_send (world.the_type ByCount.the_row ghosts) (
  table_send,
  (sessions.the_send ByCount.the_row ghosts timers.the_send, (outs.the_send, tt)),
))

recorded_send : IsSend (Recorded.the_row ByCount.the_row ghosts)
recorded_send = view_send _ _ _ _ _ (declared_send (recorded.the_type ByCount.the_row ghosts) (world_send, (Vec-send _ boxed.the_send, tt)))

held : IsSend Held.the_row
held = view_send _ _ _ _ _ (declared_send inside.the_type
    (recorded_send, (search (sendable, crosses) depth 20, (answer.the_send, (search (sendable, crosses) depth 20, tt)))))

keyless : (a : Global) (p : Ptr) (h : Option (Held.the_row).Denot) → Keyless (kept_owns a p h)
keyless a p None = tt
keyless a p (Some x) = (lies Held.the_row held p x, heap.frees.frees a (raw (lone Held.the_row.mir)) p)

pub send : IsSend the_row
send =
    let all : AllSend (fields the_type) = (search sendable, (handle.the_field_send, tt)) in
    owning_send the_type all (λ d. keyless d.alloc d.ptr d.held)
    (λ k. quiet (to the_type) (exits_of k (fields the_type)) ((struct_send (shape the_type) all).leaving k))
