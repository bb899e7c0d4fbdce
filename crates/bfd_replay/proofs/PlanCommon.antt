-- Names that proofs of this crate cite, passed on from one place. Declares nothing.
pub use Rattle.std.proofs.Common.{Err, List, None, Ok, Option, Result, Some, [], ap, append-nil, append_assoc, arith, drop, get_or, inl}
pub use Rattle.std.proofs.Common.{inr, length, length-append, map, refl, reverse, rules, subst, suc, sym, take, zero, ℕ, ◌++◌, ◌+◌, ◌<◌}
pub use Rattle.std.proofs.Common.{◌∙◌, ◌∷◌, ◌≡◌, ◌≤◌, ◌⊎◌}
pub use Rattle.std.proofs.lemmas.List.{get_or_default, length-map, map-append, reverse-append, reverse-reverse, take-append-drop}
pub use Rattle.std.specs.List.{AllByRecursion, cons_option, filter_map}
pub use Rattle.std.specs.Prelude.{slice_get, slice_index_or}
pub use Rattle.bfd_replay.specs.Happenings.{Among, Apart, Happening, in_shard, numbered, queue, session_event, apart_pieces}
pub use Rattle.bfd_script.specs.declared.line.entries.Line.{Line}
pub use Rattle.bfd_replay.specs.Planned.{AreQueues, AreRuns, Follow, IsMet, IsPlanOf, IsPlanned, IsRunPlanned, behind, events_left}
pub use Rattle.bfd_replay.specs.Planned.{events_of_table, happening, happening_by, happenings, reflecting, run_lines}
pub use Rattle.bfd_sbfd.specs.declared.reflecting.Reflector.{Reflector}
pub use Rattle.bfd_session.specs.declared.event.SessionConfig.{SessionConfig}
pub use Rattle.std.proofs.lemmas.Grind.{common_steps}
pub use Rattle.bfd_replay.specs.declared.report.queue.Numbered.{Numbered}
pub use Rattle.bfd_replay.specs.Pieces.{Piece}
pub use Rattle.bfd_replay.proofs.Histories.{apart_append, left_by, left_runs, queue_append}
pub use Rattle.bfd_session.specs.declared.event.Event.{Event}
pub use Rattle.bfd_session.specs.Step.{started}
pub use Rattle.bfd_session.specs.Kinds.{Running, configs_of}
