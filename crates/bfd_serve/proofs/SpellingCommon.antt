-- Names that proofs of this crate cite, passed on from one place. Declares nothing.
pub use Rattle.std.proofs.Common.{Bool, Err, List, None, Ok, Option, Some, [], ap, append-nil, append_assoc, arith, cond, false, inl, inr}
pub use Rattle.std.proofs.Common.{length, length-append, nat_le, nat_lt, refl, suc, sym, take, true, zero, ℕ, ◌%◌, ◌&&◌, ◌*◌, ◌++◌, ◌+◌}
pub use Rattle.std.proofs.Common.{◌-◌, ◌/◌, ◌<◌, ◌==◌, ◌^◌, ◌||◌, ◌∙◌, ◌∷◌, ◌≡◌, ◌≤◌}
pub use Rattle.std.proofs.lemmas.Bool.{and_parts, cases_lt, leb-true, or_from}
pub use Rattle.std.proofs.lemmas.Bool.Decides.{nat_tests}
pub use Rattle.std.specs.Fmt.{decimal}
pub use Rattle.std.specs.List.{AllByRecursion, list_all, list_any, slice_split}
pub use Rattle.std.specs.Prelude.{codes, find, is_some, not, slice_index}
pub use Rattle.std.specs.String.{string_bytes}
pub use Rattle.bfd_script.specs.Fields.{is_number, lines_of, number_in}
pub use Rattle.bfd_script.specs.Spelling.{hex_field, line, spaced}
pub use Rattle.bfd_script.specs.declared.fields.fault.LineFault.TheVariants.{NoSuchSession, OutOfRange, SameAddresses, SameDiscr, SameKey}
pub use Rattle.bfd_script.specs.declared.fields.fault.LineFault.TheVariants.{TooMany}
pub use Rattle.bfd_script.specs.Entries.{cmd_entry, entry_in_line}
unfoldable pub use Rattle.bfd_script.specs.Entries.{numbered_of, plain_of, received_of, shown_of}
pub use Rattle.bfd_script.specs.Ranges.{AreKeys, AreNext, IsAsked, IsEvent, IsHeadRow, IsKey, IsNext, IsPointRow, IsReceived, IsReflector}
pub use Rattle.bfd_script.specs.Ranges.{IsRow, IsInitiatorRow, IsTailRow}
pub use Rattle.bfd_script.specs.declared.line.words.Version.{Version}
pub use Rattle.bfd_script.proofs.Elements.{each_more, each_to}
pub use Rattle.bfd_session.specs.declared.event.SessionConfig.{SessionConfig}
pub use Rattle.bfd_serve.specs.Written.{address_field, auth_fields, config_text, dotted_field, event_fields, events_text, has_second}
pub use Rattle.bfd_serve.specs.Written.{is_new_line, is_new_row, key_fields, keys_text, list_text, mode_field, more_text, pool_text}
pub use Rattle.bfd_serve.specs.Written.{port_field, reflector_fields, role_field, row_fields, rows_text, spelling, up_field, verb_fields}
pub use Rattle.bfd_serve.specs.Written.{version_field, version_of}
