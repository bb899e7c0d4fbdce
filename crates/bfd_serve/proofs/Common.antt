-- Names that proofs of this crate cite, passed on from one place. Declares nothing.
pub use Rattle.std.proofs.Common.{Bool, Err, List, None, Ok, Option, Result, Some, [], ap, append-nil, append_assoc, ap₂, arith, cond, drop}
pub use Rattle.std.proofs.Common.{false, get_or, inl, inr, le_refl, length, length-append, map, refl, rules, slice_get, slice_index_or}
pub use Rattle.std.proofs.Common.{subst, suc, sym, take, take_all, true, vec_capacity, zero, ℕ, ◌*◌, ◌++◌, ◌+◌, ◌-◌, ◌<◌, ◌==◌, ◌∙◌, ◌∷◌}
pub use Rattle.std.proofs.Common.{◌≡◌, ◌≢◌, ◌≤◌, ◌⊎◌}
pub use Rattle.std.proofs.lemmas.Bool.Decides.{nat_tests}
pub use Rattle.std.proofs.lemmas.List.{drop-drop, get_or-map, get_or_append_left, get_or_default, length-map, map-append, nil_from_length}
pub use Rattle.std.proofs.lemmas.List.{same_lists, take-append-drop, take_more}
pub use Rattle.std.proofs.lemmas.List.Elements.{All-cons, All-get_or, All-head, All-nil, All-pop, All-push, All-tail, All-weaker}
pub use Rattle.std.proofs.lemmas.List.Elements.{filter-append, filter_map-append}
pub use Rattle.std.proofs.lemmas.List.Sums.{sum_by-append, sum_by-le, sum_by_push}
pub use Rattle.std.specs.List.{All, remove, sum, sum_by}
pub use Rattle.bfd_edge.specs.Faults.{risen}
pub use Rattle.bfd_edge.specs.Links.{LinkObserved, Traffic, after_receive, after_send, more_traffic}
pub use Rattle.bfd_edge.specs.Tickers.{TickerObserved, Ticks, after_next, one_given}
pub use Rattle.bfd_engine.specs.Calls.{Act, IsCall, IsCause, IsDone, IsFailed, Rests, Turned, Turns, kept_at, met_word, met_word_of, mine}
pub use Rattle.bfd_engine.specs.Calls.{seen_at, seen_of, taken_at}
pub use Rattle.bfd_engine.specs.Engines.{AllThere, IsOf, Knows, Shards, configs_at}
pub use Rattle.bfd_engine.specs.Turned.{by, entry_of}
pub use Rattle.bfd_script.specs.declared.line.entries.Line.{Line}
pub use Rattle.bfd_packet.specs.declared.arrival.Arrival.{Arrival}
pub use Rattle.bfd_packet.specs.declared.arrival.Datagram.{Datagram}
pub use Rattle.bfd_serve.specs.Calls.{Call, Lacks, act_at, call_in, calls_of, datagram_in, datagrams, entries, given_by, on_shard}
pub use Rattle.bfd_serve.specs.Calls.{sends_of_acts, until, worker_acts}
pub use Rattle.bfd_serve.specs.Jobs.{IsOpen, IsReady, IsWorked, end_of_job, link_of, lost_of, pass_of}
pub use Rattle.bfd_serve.specs.Joins.{AreJoined, HasNoCalls, HasSplit, IsFresh, IsOther, IsUnserved, calls_kept, number_of, numbers}
pub use Rattle.bfd_serve.specs.Orders.{advances, is_due, order_act, orders_acts, orders_due, orders_left, tick_acts, ticks_acts, timer_acts}
pub use Rattle.bfd_serve.specs.Ticks.{HasTimed, IsFinished, IsTicking, IsTimerEnd, is_clock_fault, more_given}
pub use Rattle.bfd_serve.specs.Works.{AreDone, Did, HasRoom, HasSent, HasWorked, IsAside, IsSentAfter, IsStopped, IsWhole, IsWorkerEnd}
pub use Rattle.bfd_serve.specs.Works.{IsWorking, Stops, end_of}
pub use Rattle.bfd_serve.specs.declared.ending.End.{End}
pub use Rattle.bfd_serve.specs.declared.ending.End.TheVariants.{ClockFault, Ended, Full, LinkFault, Memory, Spent}
pub use Rattle.bfd_shard.specs.declared.entry.Entry.{Entry}
pub use Rattle.bfd_shard.specs.declared.entry.ShardEvent.{ShardEvent}
pub use Rattle.bfd_turn.proofs.Beginnings.{begins_itself, begins_length, begins_through, begins_whole, longer_begins}
pub use Rattle.bfd_turn.specs.Lists.{Begins, calls, numbers_of}
pub use mathlib.Core.Logic.{dite}
pub use native.Mathlib.Decide.{dec_lt, ℕ_discrete}
pub use Rattle.bfd_rules.specs.declared.outputs.Out.{Out}
pub use Rattle.bfd_engine.specs.Passes.{Joined, Parted}
pub use Rattle.bfd_serve.specs.declared.jobs.Job.{Job}
pub use Rattle.bfd_serve.specs.Serves.{HasDone, HasServed, IsServedBy, IsTended, TimerDid, WorkerDid}
pub use Rattle.bfd_shard.proofs.Lists.{all_next, whole_back}
pub use denote.Builtin.{u64}
pub use denote.Param.{arg, param}
pub use denote.Param.Send.{IsSend, IsSync, arg_send, mut_send, param_send, sendable, shr_send, shr_slice_send}
pub use Rattle.bfd_engine.proofs.Crossing.{engine_sync}
