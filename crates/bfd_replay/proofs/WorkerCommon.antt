-- Names that proofs of this crate cite, passed on from one place. Declares nothing.
pub use Rattle.std.proofs.Common.{Bool, Err, List, None, Ok, Option, Result, Some, [], add_comm, ap, append-nil, append_assoc, arith, false}
pub use Rattle.std.proofs.Common.{get_or, get_or-set_other, get_or-set_same, inl, inr, length, length-append, map, refl, rules, set, subst}
pub use Rattle.std.proofs.Common.{suc, sym, take, true, w64, zero, ℕ, ◌%◌, ◌*◌, ◌++◌, ◌+◌, ◌-◌, ◌/◌, ◌<◌, ◌==◌, ◌||◌, ◌∙◌, ◌∷◌, ◌≡◌, ◌≢◌}
pub use Rattle.std.proofs.Common.{◌≤◌}
pub use Rattle.std.proofs.Math.Seq.{get_or-append_seam}
pub use Rattle.std.proofs.lemmas.Bool.{cases_lt, eq-eqb, eqb-true, ne_eqb}
pub use Rattle.std.proofs.lemmas.List.{get_or-map, get_or_append_left, length-map, length-set, map-append, map-set, nil_from_length}
pub use Rattle.std.proofs.lemmas.Option.{get_or_from_slice_get, same_Some, slice_get-get_or, slice_get_within}
pub use Rattle.std.specs.Prelude.{if◌then◌else◌, slice_get, slice_index_or, sum_by}
pub use Rattle.bfd_engine.specs.Calls.{kept_at, made_at, met_word, mine, seen_at, taken_at}
pub use Rattle.bfd_engine.specs.Engines.{AllThere, IsOf, Knows, Shards, configs_at}
pub use Rattle.bfd_engine.specs.Passes.{AreClosed, EachJoined, IsClosed, Joined, Parted}
pub use Rattle.bfd_engine.specs.declared.fault.EngineFault.{EngineFault}
pub use Rattle.bfd_replay.specs.Happenings.{Among, Apart, AreParts, Happening, in_shard, numbered, queue, apart_pieces}
pub use Rattle.bfd_replay.specs.Pieces.{Piece}
pub use Rattle.bfd_replay.specs.declared.report.queue.Numbered.{Numbered}
pub use Rattle.bfd_replay.proofs.Worlds.{left_is, world_is}
pub use Rattle.bfd_replay.specs.Planned.{AreQueues, IsMet, events_of_table, happening, happenings, script_with}
pub use Rattle.bfd_session.specs.Step.{started}
pub use Rattle.bfd_session.specs.declared.event.SessionConfig.{SessionConfig}
pub use Rattle.bfd_shard.specs.Shard.{CanHappen, IsShard, Shard}
pub use Rattle.bfd_turn.specs.Lists.{calls, has, numbers_of}
pub use Rattle.bfd_replay.specs.Counts.{one_up, sum_to, ups}
pub use Rattle.bfd_replay.specs.Jobs.{AllJobsJoined, AreJobs, AreOwn, HasEnded, HasWorkedOn, IsFreshAt, IsJoining, IsNewJob, JobsAreJoined}
pub use Rattle.bfd_replay.specs.Jobs.{Work, number_of, own_queue, seen_as}
pub use Rattle.bfd_replay.specs.Working.{AreMet, HasDoneAt, HasDoneEvents, HasFinished, HasLeft, HasStopped, HasReported, HasUsedAt}
pub use Rattle.bfd_replay.specs.Working.{IsElsewhere, IsIdle, IsSole, IsStopAt, IsTurnRefused, IsWorkerReady, entries_by, events_in}
pub use mathlib.Core.Logic.{dite}
pub use native.Mathlib.Decide.{ℕ_discrete}
pub use Rattle.bfd_script.specs.Report.{dropped, lines_from, packets_sent, report}
pub use Rattle.bfd_script.specs.Reading.{Lists}
pub use Rattle.bfd_shard.specs.declared.entry.Entry.{Entry}
pub use Rattle.bfd_engine.specs.declared.fault.EngineFault.TheVariants.{Full, Memory, Spent}
pub use Rattle.bfd_engine.specs.Turned.{by, entry_of, given_after}
pub use Rattle.bfd_replay.specs.Ends.{AreStates, AreReported, HasReportedShards, IsDoneJob, IsFine, IsState}
pub use Rattle.bfd_engine.specs.Opening.{IsNewPass}
pub use Rattle.bfd_instance.specs.World.{replayed, totals, world}
pub use Rattle.bfd_shard.proofs.Lists.{put_other}
pub use Rattle.bfd_shard.specs.History.{events_of, last_tick, later, moved, outcome_of, runs}
pub use Rattle.bfd_replay.proofs.Histories.{queue_events, runs_share, reported_runs}
pub use Rattle.bfd_sbfd.specs.declared.reflecting.Reflector.{Reflector}
pub use Rattle.bfd_session.specs.Kinds.{Running}
