-- Names that proofs of this crate cite, passed on from one place. Declares nothing.
pub use Rattle.std.proofs.Common.{List, [], ap, append-nil, append_assoc, arith, drop, false, get_or, length, length-append, length-drop}
pub use Rattle.std.proofs.Common.{map, refl, rules, subst, suc, sym, take, true, zero, ℕ, ◌++◌, ◌+◌, ◌<◌, ◌∙◌, ◌∷◌, ◌≡◌, ◌≤◌}
pub use Rattle.std.proofs.lemmas.List.{drop_more, length-map, nil_from_length, take_more}
pub use Rattle.std.specs.List.{AllByRecursion, flat_map}
pub use Rattle.std.specs.Prelude.{nat_lt, slice_get, sum_by}
pub use Rattle.bfd_script.specs.Report.{answer_line, event_lines, item_line, packets_sent, packets_sent_by}
pub use Rattle.bfd_serve.specs.Served.{History, discr_at, discr_in, entry_text, reply_at, served, served_line, shard_history, shard_line}
pub use Rattle.bfd_serve.specs.Served.{shard_sent, shard_text, turn_line}
unfoldable pub use Rattle.bfd_serve.specs.Served.{entries_sent, entries_text, shards_text}
pub use Rattle.bfd_session.specs.Kinds.{Running, configs_of, discr_of}
pub use Rattle.bfd_session.specs.declared.event.SessionConfig.{SessionConfig}
pub use Rattle.bfd_shard.specs.Shard.{CanHappen, IsHistory, Shard}
pub use Rattle.bfd_shard.specs.declared.entry.Entry.{Entry}
pub use Rattle.bfd_session.specs.Alone.{Outcome}
pub use Rattle.bfd_shard.specs.History.{events_of}
pub use Rattle.bfd_session.specs.Rows.{AreFit}
