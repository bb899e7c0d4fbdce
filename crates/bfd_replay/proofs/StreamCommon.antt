-- Names that proofs of this crate cite, passed on from one place. Declares nothing.
pub use Rattle.std.proofs.Common.{List, Option, [], ap, append-nil, append_assoc, arith, length, map, refl, reverse, subst, sym, ℕ, ◌*◌}
pub use Rattle.std.proofs.Common.{◌++◌, ◌+◌, ◌∙◌, ◌∷◌, ◌≡◌, ◌≤◌}
pub use Rattle.std.specs.Io.KnownBytes.{Appends}
pub use Rattle.std.specs.List.{AllByRecursion}
pub use Rattle.bfd_replay.specs.PendingLines.{PendingLines, ReportedUpTo}
pub use Rattle.bfd_replay.specs.Written.{TookFront, TookUpTo}
pub use Rattle.bfd_replay.specs.Happenings.{Happening, happening_outcomes}
pub use Rattle.bfd_replay.specs.Planned.{IsMet, happening, happenings, route_is, script_with}
pub use Rattle.bfd_script.specs.Report.{done_line, dropped, event_lines, lines_from, packets_sent, report}
pub use Rattle.bfd_session.specs.Alone.{Outcome}
pub use Rattle.bfd_session.specs.Kinds.{Running, configs_of}
pub use Rattle.bfd_session.specs.declared.event.SessionConfig.{SessionConfig}
pub use Rattle.bfd_replay.proofs.Written.{front_of_longer, none_taken, took_front, took_nothing, took_of_longer, took_on, took_rest}
pub use Rattle.bfd_replay.proofs.Written.{when_ok}
pub use Rattle.bfd_sbfd.specs.declared.reflecting.Reflector.{Reflector}
pub use Rattle.bfd_script.specs.declared.line.entries.Line.{Line}
pub use Rattle.bfd_session.specs.Step.{started}
