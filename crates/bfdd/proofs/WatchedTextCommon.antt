-- Names that proofs of this crate cite, passed on from one place. Declares nothing.
pub use Rattle.std.proofs.Common.{Bool, Err, List, None, Ok, Option, Result, Some, [], ap, append-nil, append_assoc, arith, drop, false}
pub use Rattle.std.proofs.Common.{get_or, inl, inr, length, length-append, map, max, refl, rules, set, subst, suc, sym, take, true, zero, ℕ}
pub use Rattle.std.proofs.Common.{◌%◌, ◌*◌, ◌++◌, ◌+◌, ◌-◌, ◌/◌, ◌<◌, ◌==◌, ◌∙◌, ◌∷◌, ◌≡◌, ◌≢◌, ◌≤◌, ◌⊎◌}
pub use Rattle.std.proofs.lemmas.Bool.{cases_lt, eq-eqb, le-ltb, lt-ltb, ne_eqb}
pub use Rattle.std.proofs.lemmas.List.Elements.{filter_map-append}
pub use Rattle.std.proofs.lemmas.List.{length-map, length-set, map-append, nil_from_length}
pub use Rattle.std.proofs.lemmas.Option.{get_or_from_slice_get, same_Some, slice_get-get_or}
pub use Rattle.std.proofs.Math.Nat.{mod-lt}
pub use Rattle.std.proofs.Math.Seq.{drop-append_seam}
pub use Rattle.std.specs.List.{AllByRecursion, cons_option, flat_map, filter_map}
pub use Rattle.std.specs.Prelude.{if◌then◌else◌, nat_lt, slice_get, slice_index_or}
pub use mathlib.Core.Logic.{dite}
pub use native.Mathlib.Decide.{ℕ_discrete}
pub use Rattle.bfd_rules.specs.Names.{named}
pub use Rattle.bfd_rules.specs.declared.outputs.Out.{Out}
pub use Rattle.bfd_rules.specs.declared.outputs.Out.TheVariants.{Changed, Sent}
pub use Rattle.bfd_session.specs.Alone.{Outcome, tick_items}
pub use Rattle.bfd_session.specs.Kinds.{Running, configs_of, discr_of}
pub use Rattle.bfd_session.specs.Rows.{Ascends}
pub use Rattle.bfd_session.specs.Step.{started}
pub use Rattle.bfd_session.specs.declared.event.SessionConfig.{SessionConfig}
pub use Rattle.bfd_sbfd.specs.declared.reflecting.Reflector.{Reflector}
pub use Rattle.bfd_shard.specs.declared.entry.Entry.{Entry}
pub use Rattle.bfd_shard.specs.declared.entry.ShardEvent.{ShardEvent}
pub use Rattle.bfd_shard.specs.declared.entry.ShardEvent.TheVariants.{Own, Tick}
unfoldable pub use Rattle.bfd_shard.specs.Dealing.{share}
pub use Rattle.bfd_shard.specs.Dealing.{history_of, event_in}
pub use Rattle.bfd_shard.specs.History.{events_of, last_tick, later, runs}
unfoldable pub use Rattle.bfd_shard.specs.History.{last_from}
unfoldable pub use Rattle.bfd_shard.specs.History.{moved, outcome_of}
pub use Rattle.bfd_turn.specs.Lists.{calls, has}
pub use Rattle.bfd_engine.specs.declared.fault.EngineFault.{EngineFault}
pub use Rattle.bfd_engine.specs.declared.fault.EngineFault.TheVariants.{Full, Memory, Spent}
pub use Rattle.bfd_engine.specs.Calls.{Act, IsCall, IsDone, IsFailed, Rests, Turned, Turns, made_at, met_word, seen_at, taken_at}
pub use Rattle.bfd_engine.specs.Engines.{AllThere, IsOf, Knows, Shards, configs_at}
pub use Rattle.bfd_engine.specs.Passes.{AreClosed, EachJoined, IsClosed}
pub use Rattle.bfd_engine.specs.Reads.{HasRead}
pub use Rattle.bfd_engine.specs.Turned.{by, entry_of, given_after}
pub use Rattle.bfd_engine.specs.Opening.{IsNewPass}
pub use Rattle.bfd_script.specs.declared.line.entries.Line.{Line}
pub use Rattle.bfd_replay.specs.Happenings.{Among, Apart, Happening, happening_outcomes, in_shard, session_event}
pub use Rattle.bfd_replay.proofs.Histories.{left_runs}
pub use Rattle.bfd_replay.specs.Planned.{happening, happening_by, happenings}
pub use Rattle.bfd_replay.specs.Working.{IsSole, entries_by}
pub use Rattle.bfd_replay.proofs.Soles.{all_calls, events_entries, front_sole, sole_of}
pub use Rattle.bfd_watch.specs.declared.change.Change.{Change}
unfoldable pub use Rattle.bfd_watch.specs.Changes.{changes_from}
pub use Rattle.bfd_watch.specs.Changes.{changes_in}
pub use Rattle.bfd_watch.specs.Groups.{Group, group_after}
pub use Rattle.bfd_watch.specs.Watching.{Watching, reported_by, watching}
unfoldable pub use Rattle.bfd_watch.specs.Watched.{watched_lines_from}
pub use Rattle.bfd_watch.specs.Watched.{watched, watched_line, watched_lines}
pub use Rattle.bfd_replay.specs.Turning.{AllSole, HasKept, IsCutShort, IsOpenedFor, IsRefusal, Went, brought, outcome_in}
pub use Rattle.bfdd.specs.Following.{AreBehind, AreWatched, IsUntaken, lower, merged, merged_of, news, not_lower, of_event, reported_after}
