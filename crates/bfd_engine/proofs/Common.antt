-- Names that proofs of this crate cite, passed on from one place. Declares nothing.
pub use Rattle.std.proofs.Common.{Bool, Err, IfErr, IfOk, List, MatchResult, None, Ok, OnErr, Option, Result, Some, [], ap, append-nil}
pub use Rattle.std.proofs.Common.{append_assoc, ap₂, arith, drop, false, get_or, if◌then◌else◌, inl, inr, length, length-append, length-set}
pub use Rattle.std.proofs.Common.{map, refl, rules, set, set-set, slice_get, slice_set, subst, suc, sym, true, vec_capacity, vec_len, zero}
pub use Rattle.std.proofs.Common.{ℕ, ◌%◌, ◌*◌, ◌++◌, ◌+◌, ◌^◌, ◌-◌, ◌/◌, ◌<◌, ◌==◌, ◌∙◌, ◌∷◌, ◌≡◌, ◌≢◌, ◌≤◌}
pub use Rattle.std.proofs.lemmas.Bool.{eq-eqb, le-ltb, lt-ltb, ne_eqb}
pub use Rattle.std.proofs.lemmas.Bool.Decides.{nat_tests}
pub use Rattle.std.proofs.lemmas.List.{get_or_append_left, get_or_push, length-map, nil_from_length}
pub use Rattle.std.proofs.lemmas.Option.{get_or_from_slice_get, same_Some, slice_get-get_or, slice_get_within}
pub use Rattle.std.specs.List.{AllByRecursion, position_from}
pub use Rattle.std.specs.Option.{option_map, option_or}
pub use Rattle.std.specs.Prelude.{nat_lt, position, unwrap_or}
pub use Rattle.bfd_demux.specs.Selection.{first_header_failing, first_table_failing, names_on, reflector_index, target_of, target_on}
pub use Rattle.bfd_demux.specs.Selection.{the_one}
pub use Rattle.bfd_demux.specs.declared.row.Row.{Row}
pub use Rattle.bfd_demux.specs.declared.target.Target.{Target}
pub use Rattle.bfd_demux.specs.declared.target.Target.TheVariants.{Echo, Session}
pub use Rattle.bfd_engine.specs.Calls.{HasUsed, IsCall, IsCause, IsDone, IsFailed, TookTurn, Turned, coming_act, fault_of, kept_of, made_of}
pub use Rattle.bfd_engine.specs.Calls.{met_word, met_word_of, mine, reflect_act, seen_at, seen_of, taken_at, taken_of}
pub use Rattle.bfd_engine.specs.Engines.{AllOf, AllThere, AreNew, AreNewAt, Held, IsCallers, IsEngine, IsOf, Knows, Shards, base_at}
pub use Rattle.bfd_engine.specs.Engines.{configs_at}
pub use Rattle.bfd_engine.specs.Judging.{IsAnswered, arrival_judged, packet_answer, return_answer}
pub use Rattle.bfd_engine.specs.Opening.{AreNewStates, AreOpened, AreShares, IsMade, IsNewPass, IsNewState, IsOpenedShard, MayOpen}
pub use Rattle.bfd_engine.specs.Opening.{opened_base}
pub use Rattle.bfd_session.specs.Tables.{Climbs, IsSorted}
pub use Rattle.bfd_engine.specs.Passes.{AreCut, AreGlued, CutsAt, EachJoined, GluesAt, IsClosed, IsCut, IsGlued, Joined, Parted}
pub use Rattle.bfd_engine.specs.Turned.{HadTurn, HasLooked, HasTurned, IsSame, IsTimely, IsTurnCause, OfShard, WasUsed, by, configs_in}
pub use Rattle.bfd_engine.specs.Turned.{entry_of, given_after, limit_in, room_in}
pub use Rattle.bfd_engine.specs.declared.locked.Base.{Base}
pub use Rattle.bfd_engine.specs.declared.turn.TurnFault.{TurnFault}
pub use Rattle.bfd_packet.specs.declared.arrival.Arrival.{Arrival}
pub use Rattle.bfd_packet.specs.declared.arrival.Datagram.{Datagram}
pub use Rattle.bfd_packet.specs.declared.discard.Test.{Test}
pub use Rattle.bfd_rules.specs.declared.outputs.Out.{Out}
pub use Rattle.bfd_sbfd.specs.Reflect.{reflect}
pub use Rattle.bfd_session.specs.Arrivals.{Discarded, comes_to, coming_by, coming_to}
pub use Rattle.bfd_session.specs.Kinds.{Running, configs_of, discr_of}
pub use Rattle.bfd_session.specs.Rows.{AreFit, Ascends, place_of, row_of, row_of_reflector, rows_of, table_of}
pub use Rattle.bfd_session.specs.Step.{CanTake, IsFit, started}
unfoldable pub use Rattle.bfd_session.specs.Step.{reply}
pub use Rattle.bfd_session.specs.declared.event.Answer.{Answer}
pub use Rattle.bfd_session.specs.declared.event.Event.{Event}
pub use Rattle.bfd_session.specs.declared.event.SessionConfig.{SessionConfig}
unfoldable pub use Rattle.bfd_shard.specs.Dealing.{share}
pub use Rattle.bfd_shard.specs.History.{events_of, last_tick, run, runs}
unfoldable pub use Rattle.bfd_shard.specs.History.{outcome_of, runs_from}
pub use Rattle.bfd_shard.specs.Shard.{CanHappen, IsExact, IsHistory, IsOver, IsShard, Shard, room_for}
pub use Rattle.bfd_session.specs.Reaching.{IsTaken}
pub use Rattle.bfd_shard.specs.declared.entry.Entry.{Entry}
pub use Rattle.bfd_shard.specs.declared.entry.ShardEvent.{ShardEvent}
pub use Rattle.bfd_shard.specs.declared.entry.ShardEvent.TheVariants.{Own, Tick}
pub use Rattle.bfd_turn.specs.Lists.{Begins, calls, has, longer}
pub use Rattle.bfd_turn.specs.Passes.{AllJoined, IsBack, TableId, WasBusy, WasSpent, having_done, having_joined, having_made, having_met}
pub use Rattle.bfd_turn.specs.Passes.{made_by, opened_pass}
pub use mathlib.Core.Logic.{dite}
pub use native.Mathlib.Decide.{ℕ_discrete}
pub use Rattle.bfd_sbfd.specs.declared.reflecting.Reflector.{Reflector}
pub use Rattle.bfd_turn.specs.Plays.{Adds, AllKept}
pub use Rattle.bfd_engine.specs.declared.turn.TurnFault.TheVariants.{Full, Memory, Spent}
pub use Rattle.bfd_engine.specs.Reads.{AreGiven, HasRead, IsHistoryUnread, IsUnreadAt}
pub use Rattle.std.proofs.lemmas.List.Elements.{All-nil, filter-append}
pub use Rattle.bfd_engine.specs.Holds.{HasMet, HasTaken, IsKept}
pub use Rattle.bfd_packet.specs.Layout.{fields_of}
pub use Rattle.bfd_demux.specs.Rows.{build_fault, early_fault, first_repeat, repeat_after, same_discr}
pub use Rattle.bfd_session.proofs.Starting.{started_configs}
pub use Rattle.bfd_shard.proofs.Sharing.{there}
pub use Rattle.bfd_engine.specs.declared.fault.EngineFault.{EngineFault}
