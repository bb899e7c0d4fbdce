-- Names that proofs of this crate cite, passed on from one place. Declares nothing.
pub use Rattle.std.proofs.Common.{Bool, Err, List, None, Ok, Option, Result, Some, [], ap, append-nil, append_assoc, arith, drop, false}
pub use Rattle.std.proofs.Common.{if◌then◌else◌, inl, inr, is_some, length, length-append, max, not, refl, subst, suc, sym, take, true}
pub use Rattle.std.proofs.Common.{zero, ℕ, ◌&&◌, ◌*◌, ◌++◌, ◌+◌, ◌-◌, ◌<◌, ◌==◌, ◌||◌, ◌∙◌, ◌∷◌, ◌≡◌, ◌≤◌, ◌⊎◌}
pub use Rattle.std.proofs.lemmas.Bool.{both_ways, not-true, or_from, or_parts}
pub use Rattle.std.specs.Prelude.{find, slice_get, unwrap_or, vec_capacity, vec_len}
pub use Rattle.bfd_num.specs.Numbers.{floor_tick, greatest_tick, moment_bound}
pub use Rattle.bfd_p2p.specs.Transmit.{packet_bytes, packet_of}
unfoldable pub use Rattle.bfd_p2p.specs.Transmit.{transmits}
pub use Rattle.bfd_packet.specs.Layout.{fields_of}
pub use Rattle.bfd_packet.specs.States.{is_init_or_up}
pub use Rattle.bfd_packet.specs.declared.arrival.Arrival.{Arrival}
pub use Rattle.bfd_packet.specs.declared.control.Control.{Control}
pub use Rattle.bfd_packet.specs.declared.control.State.{State}
pub use Rattle.bfd_packet.specs.declared.control.State.TheVariants.{AdminDown, Down, Init, Up}
pub use Rattle.bfd_packet.specs.declared.discard.Test.{Test}
pub use Rattle.bfd_packet.specs.declared.keys.SeqState.{SeqState}
pub use Rattle.bfd_pair.specs.Handshake.{Heard, IsHandshake, is_up_after, sent_by_then, reports_up}
pub use Rattle.bfd_pair.specs.Inside.{IsPair, IsPeer, Pairing, both_of, by_way, pairing_of, seen}
pub use Rattle.bfd_pair.specs.Run.{Both, End, Move, arrival_to, arrives, both_after, comes, given_packet, items_of, judged_move}
pub use Rattle.bfd_pair.specs.Run.{opened_side, other, own_move, packet_at, packets_among, screened, side_moves, side_of, ticking, turn}
unfoldable pub use Rattle.bfd_pair.specs.Run.{pair_run}
pub use Rattle.bfd_pair.specs.declared.event.PairEvent.{PairEvent}
pub use Rattle.bfd_pair.specs.declared.event.PairEvent.TheVariants.{Give, Order, Tick}
pub use Rattle.bfd_pair.specs.declared.event.Side.{Side}
pub use Rattle.bfd_pair.specs.declared.event.Side.TheVariants.{Left, Right}
pub use Rattle.bfd_pair.specs.declared.peer.Peer.{Peer}
pub use Rattle.bfd_rules.specs.EventFrame.{Course, based, course, drawn, enters, is_unannounced, announces, changed_between}
unfoldable pub use Rattle.bfd_rules.specs.EventFrame.{changes, redrawn, sends}
pub use Rattle.bfd_rules.specs.Quantities.{deadline, is_admin_down, is_idle, is_up, may_send, same_state, seq_deadline}
pub use Rattle.bfd_rules.specs.declared.commands.Cmd.{Cmd}
pub use Rattle.bfd_rules.specs.declared.config.Config.{Config}
pub use Rattle.bfd_rules.specs.declared.outputs.Out.{Out}
pub use Rattle.bfd_rules.specs.declared.variables.Mark.{Mark}
pub use Rattle.bfd_rules.specs.declared.variables.Vars.{Vars}
pub use Rattle.bfd_session.proofs.Renewing.{drawn_state, renewed_state}
pub use Rattle.bfd_session.specs.Kinds.{Flow, Running, discr_of}
pub use Rattle.bfd_session.specs.Step.{CanTake, IsFit, IsSound, acted, answer_of, answer_to_packet, begun, finished, next, settled}
pub use Rattle.bfd_session.specs.Step.{sound_by, started, step_from, tick_from, tick_next}
unfoldable pub use Rattle.bfd_session.specs.Step.{emits, reply, step, stepped_flow, tick, tick_emits, ticked_flow}
pub use Rattle.bfd_session.specs.declared.event.Event.TheVariants.{Command, Packet}
pub use Rattle.bfd_session.specs.declared.event.SessionConfig.{SessionConfig}
pub use Rattle.bfd_session.specs.declared.event.SessionConfig.TheVariants.{PointToPoint}
pub use Rattle.bfd_rules.specs.declared.outputs.Out.TheVariants.{Changed, Sent}
pub use Rattle.bfd_echo.specs.declared.echo.Echo.{Echo}
pub use Rattle.bfd_session.specs.declared.event.Answer.{Answer}
pub use Rattle.bfd_session.specs.declared.event.Answer.TheVariants.{Handled}
pub use Rattle.bfd_session.specs.Alone.{effective, step_outcome, tick_items}
pub use Rattle.std.proofs.lemmas.Bool.Decides.{nat_tests}
pub use Rattle.bfd_demux.specs.Selection.{first_failing_on, first_header_failing, first_table_failing, is_multipoint, table_fails}
pub use Rattle.bfd_demux.specs.Selection.{tests_on_header}
pub use Rattle.bfd_session.specs.Rows.{kind_of, row_of}
