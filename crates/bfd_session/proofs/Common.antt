-- Names that proofs of this crate cite, passed on from one place. Declares nothing.
pub use Rattle.std.proofs.Common.{Bool, Err, IfSome, IsSome, IsTrue, List, None, Ok, Option, Result, Some, [], ap, append-nil, arith, cond}
pub use Rattle.std.proofs.Common.{false, get_or, if◌then◌else◌, inl, inr, is_none, is_some, length, map, not, option_map, refl, rules}
pub use Rattle.std.proofs.Common.{subst, suc, sym, take, true, zero, ℕ, ◌&&◌, ◌*◌, ◌++◌, ◌+◌, ◌-◌, ◌<◌, ◌==◌, ◌^◌, ◌||◌, ◌↔◌, ◌∙◌, ◌∷◌, ◌≡◌}
pub use Rattle.std.proofs.Common.{◌≤◌}
pub use Rattle.std.proofs.lemmas.Bool.{and_parts, eq-eqb, leb-false, ne_eqb, or_parts}
pub use Rattle.std.proofs.lemmas.Bool.Decides.{nat_tests}
pub use Rattle.std.proofs.lemmas.Grind.{common_steps}
pub use Rattle.std.specs.List.{AllByRecursion, filter, list_all, position_from, position_or_len}
pub use Rattle.std.specs.Prelude.{find, nat_le, nat_lt, position, slice_get, slice_index, unwrap_or}
pub use Rattle.bfd_demux.specs.Selection.{first_header_failing, first_table_failing, is_multipoint, is_session, names_on, only}
pub use Rattle.bfd_demux.specs.Selection.{reflector_index, session_index, table_fails, target_of, target_on, tests_on_header}
pub use Rattle.bfd_demux.specs.Selection.{tests_on_table, the_one}
pub use Rattle.bfd_demux.specs.declared.row.Row.{Row}
pub use Rattle.bfd_echo.specs.Rules.{HasMoments}
unfoldable pub use Rattle.bfd_echo.specs.Rules.{outcome}
pub use Rattle.bfd_echo.specs.Timing.{has_failed, is_echo_wanted, is_sending}
pub use Rattle.bfd_echo.specs.declared.echo.Echo.{Echo}
pub use Rattle.bfd_echo.specs.declared.echo.EchoResult.{EchoResult}
pub use Rattle.bfd_echo.specs.declared.echo.EchoResult.TheVariants.{Failed, Nothing, Sent}
pub use Rattle.bfd_mp.specs.declared.config.HeadConfig.{HeadConfig}
pub use Rattle.bfd_num.specs.Due.{has_come, sooner}
pub use Rattle.bfd_num.specs.Numbers.{moment_bound, next_j}
unfoldable pub use Rattle.bfd_num.specs.Numbers.{ceil_tick, floor_tick}
pub use Rattle.bfd_p2p.specs.Command.{demand_done, done, is_out_of_range, is_wrong_kind, key_place, path_done, refusal}
unfoldable pub use Rattle.bfd_p2p.specs.Command.{commanded}
unfoldable pub use Rattle.bfd_p2p.specs.Frame.{moves, renews}
pub use Rattle.bfd_p2p.specs.Machine.{Machine, failed, initial}
unfoldable pub use Rattle.bfd_p2p.specs.Machine.{made}
unfoldable pub use Rattle.bfd_p2p.specs.Transmit.{transmits}
pub use Rattle.bfd_packet.specs.HeaderTests.{first_failing, header_fails, read_of, unless}
pub use Rattle.bfd_packet.specs.Layout.{fields_of, word_at}
pub use Rattle.bfd_packet.specs.declared.arrival.Arrival.{Arrival}
pub use Rattle.bfd_packet.specs.declared.arrival.Port.{Port}
pub use Rattle.bfd_packet.specs.declared.control.Control.{Control}
pub use Rattle.bfd_packet.specs.declared.control.State.{State}
pub use Rattle.bfd_packet.specs.declared.control.State.TheVariants.{Down, Init, Up}
pub use Rattle.bfd_packet.specs.declared.discard.Test.{Test}
pub use Rattle.bfd_packet.specs.declared.discard.Test.TheVariants.{AuthDigest, AuthKey, AuthLen, AuthMissing, AuthSeq, AuthType}
pub use Rattle.bfd_packet.specs.declared.discard.Test.TheVariants.{AuthUnexpected, DetectMult, LengthMin, LengthOver, Multipoint, MyDiscr}
pub use Rattle.bfd_packet.specs.declared.discard.Test.TheVariants.{Short, Ttl, Version}
pub use Rattle.bfd_packet.specs.declared.keys.SeqState.{SeqState}
pub use Rattle.bfd_rules.specs.EventFrame.{Course, based, begins, course, draws, enters, is_unannounced}
unfoldable pub use Rattle.bfd_rules.specs.EventFrame.{changes, drawn, redrawn, sends}
pub use Rattle.bfd_rules.specs.Quantities.{deadline, demand_here, is_admin_down, is_idle, is_up, may_send, seq_deadline, tx_interval}
pub use Rattle.bfd_rules.specs.Renewal.{poll_again}
unfoldable pub use Rattle.bfd_rules.specs.Renewal.{demand_renewed, poll_renewed, renewed, used_renewed}
pub use Rattle.bfd_rules.specs.Sound.{HasPeerMult, IsPlace, IsPlain, IsRenewed, IsSteady, is_interval}
pub use Rattle.bfd_rules.specs.declared.commands.Cmd.{Cmd}
pub use Rattle.bfd_rules.specs.declared.config.Config.{Config}
pub use Rattle.bfd_rules.specs.declared.variables.Mark.{Mark}
pub use Rattle.bfd_rules.specs.declared.variables.Vars.{Vars}
pub use Rattle.bfd_sbfd.specs.declared.reflecting.Reflector.{Reflector}
pub use Rattle.bfd_session.specs.Due.{detects, detects_by, due, due_by, tick_of}
pub use Rattle.bfd_session.specs.Echoing.{IsEchoOver, back_to, echo_due, echoing, goes_on, interval_of, number_after, number_by, settled_by}
pub use Rattle.bfd_session.specs.Echoing.{settled_running, should_echo, turns_echo}
unfoldable pub use Rattle.bfd_session.specs.Echoing.{settles_echo}
pub use Rattle.bfd_session.specs.Inside.{head_of, point_of, running_of, initiator_of, tail_of}
pub use Rattle.bfd_session.specs.Kinds.{Flow, Running, along, configs_of, discr_of, flow, left_by}
pub use Rattle.bfd_session.specs.Rows.{AreFit, Ascends, Differs, kind_of, row_of, row_of_reflector, rows_of, same_selector, table_of}
pub use Rattle.bfd_session.specs.Step.{CanTake, HasSize, IsFit, IsFor, IsPointSound, IsSound, TakesPacket, acted, answer_of}
pub use Rattle.bfd_session.specs.Step.{answer_to_packet, begun, finished, next, reply_from, settled, sound_by, started, step_from}
pub use Rattle.bfd_session.specs.Step.{tick_from, tick_next}
unfoldable pub use Rattle.bfd_session.specs.Step.{emits, reply, step, stepped_flow, tick, tick_emits, ticked_flow}
pub use Rattle.bfd_session.specs.declared.event.Event.{Event}
pub use Rattle.bfd_session.specs.declared.event.Event.TheVariants.{Command, Packet, Returned, Show}
pub use Rattle.bfd_session.specs.declared.event.SessionConfig.{SessionConfig}
pub use Rattle.bfd_session.specs.declared.event.SessionConfig.TheVariants.{Head, PointToPoint, Initiator, Tail}
pub use Rattle.bfd_packet.specs.KeyChain.{KeyChain, no_key, place_of}
pub use Rattle.bfd_p2p.specs.Receive.{authenticated, is_single, judged_by, session_fails, session_tests, verdict_by, verdict_on}
pub use Rattle.bfd_rules.specs.Jitter.{pick}
pub use Rattle.bfd_rules.specs.declared.outputs.Out.{Out}
pub use Rattle.bfd_rules.proofs.Courses.{after, changes-after, changes_names, either, own_name, sends-after, sends_names}
pub use Rattle.bfd_echo.proofs.Moments.{begun_moments, returned_moments, settled_moments}
pub use Rattle.bfd_packet.specs.declared.arrival.Addr.{Addr}
pub use Rattle.bfd_rules.specs.declared.config.Role.{Role}
pub use Rattle.bfd_rules.specs.declared.config.Role.TheVariants.{Multi, Single}
pub use Rattle.bfd_session.specs.Reaching.{Reaches, Stands}
