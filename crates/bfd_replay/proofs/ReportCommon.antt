-- Names that proofs of this crate cite, passed on from one place. Declares nothing.
pub use Rattle.std.proofs.Common.{Bool, Err, List, None, Ok, OnErr, OnOk, Option, Result, Some, [], ap, append-nil, append_assoc, arith}
pub use Rattle.std.proofs.Common.{drop, drop-cons, ext_get_or, false, get_or, get_or-set_other, get_or-set_same, inl, inr, length}
pub use Rattle.std.proofs.Common.{length-append, length-drop, length-set, map, max, refl, set, subst, suc, sym, take, take-append-drop}
pub use Rattle.std.proofs.Common.{true, zero, ℕ, ◌%◌, ◌&&◌, ◌*◌, ◌++◌, ◌+◌, ◌-◌, ◌/◌, ◌<◌, ◌==◌, ◌||◌, ◌∙◌, ◌∷◌, ◌≡◌, ◌≢◌, ◌≤◌, ◌⊎◌}
pub use Rattle.std.proofs.lemmas.Bool.{cases_eq, eq-eqb, ne_eqb}
pub use Rattle.std.proofs.lemmas.List.{drop-append-le, get_or-map, get_or_default, length-map, map-append, map-set, take-append-le}
pub use Rattle.std.proofs.lemmas.List.Sums.{sum_by-append, sum_by-cons}
pub use Rattle.std.specs.List.{AllByRecursion, cons_option, filter, filter_map, flat_map, sum_by}
pub use Rattle.std.specs.Prelude.{IfOk, IfSome, nat_lt, slice_get, ◌^◌}
pub use Rattle.bfd_replay.specs.Happenings.{Among, Apart, AreParts, Happening, happening_outcomes, in_shard, numbered, queue, session_event}
pub use Rattle.bfd_replay.specs.Happenings.{shard_pieces, apart_pieces, whole_pieces}
pub use Rattle.bfd_replay.specs.Inside.{HasAll, IsLeast, IsPart, first_drops, first_key, first_text, first_txs, head_key, keys, mark_key}
pub use Rattle.bfd_replay.specs.Inside.{mark_of, pieces_at, rank_key}
pub use Rattle.bfd_replay.specs.Pieces.{Piece, event_pieces, item_piece, key, precedes, texts, whole_piece}
pub use Rattle.std.specs.Io.KnownBytes.{Appends}
pub use Rattle.bfd_replay.specs.Written.{TookFront, TookUpTo}
pub use Rattle.bfd_replay.specs.Spread.{AreGathered, Dealt, IsBefore, IsSpread, Ordered, deal, dealt_text, pieces_in}
pub use Rattle.bfd_replay.specs.declared.report.key.Key.{Key}
pub use Rattle.bfd_replay.specs.declared.report.key.Mark.{Mark}
pub use Rattle.bfd_rules.specs.declared.outputs.Out.{Out}
pub use Rattle.bfd_script.specs.Report.{answer_line, done_line, dropped, dropped_by, event_lines, item_line, lines_from, packets_sent}
pub use Rattle.bfd_script.specs.Report.{packets_sent_by, report}
pub use Rattle.bfd_session.specs.Alone.{Outcome, stepped, tick_items, ticked}
pub use Rattle.bfd_session.specs.Kinds.{Running, configs_of, discr_of}
pub use Rattle.bfd_session.specs.declared.event.Event.{Event}
pub use Rattle.bfd_shard.specs.Dealing.{event_in, history_of}
unfoldable pub use Rattle.bfd_shard.specs.Dealing.{share}
pub use Rattle.bfd_shard.specs.History.{last_tick, later, own_moved, runs}
unfoldable pub use Rattle.bfd_shard.specs.History.{last_from, moved, outcome_of, run_from}
pub use Rattle.bfd_shard.specs.declared.entry.ShardEvent.{ShardEvent}
pub use Rattle.bfd_shard.specs.declared.entry.ShardEvent.TheVariants.{Own, Tick}
pub use Rattle.bfd_shard.proofs.Runs.{moved_at, moved_configs, moved_long, runs_at, runs_long}
pub use Rattle.bfd_replay.specs.declared.report.queue.Numbered.{Numbered}
pub use Rattle.bfd_shard.proofs.Sharing.{not_there, share_map, share_other, share_set, there}
pub use Rattle.std.proofs.lemmas.Bool.Decides.{nat_tests}
pub use Rattle.bfd_session.specs.declared.event.Answer.TheVariants.{Dropped}
pub use Rattle.std.proofs.lemmas.Grind.{flat_map-append}
pub use Rattle.bfd_rules.specs.Names.{named}
pub use Rattle.bfd_script.proofs.Elements.{each_more}
pub use Rattle.bfd_script.proofs.Sizes.{item_some, sent_short, some_after}
pub use Rattle.std.proofs.KnownBytes.{Appends-nil, Appends-trans}
pub use Rattle.std.proofs.lemmas.Nat.{div-add-mod', mul-le}
pub use Rattle.std.proofs.Math.Nat.{mod-eq_of_lt, mod-lt, mul-add-mod_self_left}
