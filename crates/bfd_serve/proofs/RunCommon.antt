-- Names that proofs of this crate cite, passed on from one place. Declares nothing.
pub use Rattle.std.proofs.Common.{Bool, Err, IfOk, List, None, Ok, Option, Result, Some, [], ap, append-nil, append_assoc, arith, cond}
pub use Rattle.std.proofs.Common.{drop, false, get_or, inl, inr, length, length-append, map, refl, slice_get, slice_index_or, subst, suc}
pub use Rattle.std.proofs.Common.{sym, take, true, vec_capacity, zero, ℕ, ◌*◌, ◌++◌, ◌+◌, ◌-◌, ◌<◌, ◌==◌, ◌∙◌, ◌∷◌, ◌≡◌, ◌≢◌, ◌≤◌, ◌⊎◌}
pub use Rattle.std.proofs.lemmas.Bool.Decides.{nat_tests}
pub use Rattle.std.proofs.lemmas.List.{drop-drop, drop_all, drop_more, get_or-map, get_or_append_left, get_or_default, length-map}
pub use Rattle.std.proofs.lemmas.List.{map-append, same_lists}
pub use Rattle.std.proofs.lemmas.List.Elements.{All-cons, All-get_or, All-head, All-same, All-tail, recursion_from_All}
pub use Rattle.std.proofs.lemmas.Option.{get_or_from_slice_get, same_Some, slice_get_past, slice_get_within}
pub use Rattle.std.specs.List.{All, AllByRecursion}
pub use Rattle.bfd_edge.specs.Links.{IsNewLink, LinkObserved}
pub use Rattle.bfd_edge.specs.Tickers.{TickerObserved}
pub use Rattle.bfd_engine.specs.Calls.{Act, Rests, ask_act, coming_act, kept_at, made_at, met_word, met_word_of, reflect_act, seen_at}
pub use Rattle.bfd_engine.specs.Engines.{IsOf, Knows, Shards, configs_at}
pub use Rattle.bfd_engine.specs.Turned.{by, entry_of}
pub use Rattle.bfd_script.specs.declared.line.entries.Line.{Line}
pub use Rattle.bfd_serve.specs.Calls.{calls_of, entries, worker_acts}
pub use Rattle.bfd_serve.specs.Ticks.{IsTimerEnd, is_clock_fault}
pub use Rattle.bfd_serve.specs.declared.ending.End.{End}
pub use Rattle.bfd_serve.specs.declared.serving.Limits.{Limits}
pub use Rattle.bfd_serve.specs.Finishes.{HadMemory, IsUnspent, finish_by, finish_from, refused_as}
pub use Rattle.bfd_serve.specs.Linking.{AreShut, AreTheirs, AreUncalled, IsFaultOf, IsOpenTo, IsUncalled, IsUnopened}
pub use Rattle.bfd_serve.specs.Runs.{AreClosedShards, AreDealt, HaveRun, IsOpened, TimerRan, WorkerRan, all_on, calls_on, history_at}
pub use Rattle.bfd_serve.specs.Runs.{journal_in, no_words, script_with, observed_on_link}
pub use Rattle.bfd_session.specs.Kinds.{Running, configs_of}
pub use Rattle.bfd_session.specs.Rows.{AreFit, place_of, table_of}
pub use Rattle.bfd_session.specs.declared.event.SessionConfig.{SessionConfig}
unfoldable pub use Rattle.bfd_shard.specs.Dealing.{share}
pub use Rattle.bfd_shard.specs.Shard.{CanHappen, IsHistory, IsOnTime, IsShard, Shard}
pub use Rattle.bfd_session.specs.Reaching.{IsTaken}
pub use Rattle.bfd_shard.specs.declared.entry.Entry.{Entry}
pub use Rattle.bfd_turn.specs.Lists.{calls, has, numbers_of}
pub use mathlib.Core.Logic.{dite}
pub use native.Mathlib.Decide.{dec_lt, ℕ_discrete}
pub use Rattle.bfd_serve.specs.Works.{IsWorkerEnd, StartsOn}
pub use Rattle.bfd_serve.specs.Orders.{advances, order_act, orders_acts, orders_due, orders_left, ticks_acts, timer_acts}
pub use Rattle.bfd_serve.specs.declared.run.finish.Finish.{Finish}
pub use Rattle.bfd_packet.specs.declared.arrival.Datagram.{Datagram}
pub use Rattle.bfd_session.specs.Step.{IsFit, reply}
pub use Rattle.bfd_edge.specs.Ports.{PortsObserved, after_open}
pub use Rattle.bfd_script.specs.Reading.{Lists}
