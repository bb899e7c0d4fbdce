-- Names that proofs of this crate cite, passed on from one place. Declares nothing.
pub use Rattle.std.proofs.Common.{Bool, List, None, Option, Some, [], ap, append-nil, append_assoc, arith, cond, drop, false, get_or}
pub use Rattle.std.proofs.Common.{length, length-append, nat_le, nat_lt, not, refl, rules, set, slice_index_or, subst, suc, sym, take, true}
pub use Rattle.std.proofs.Common.{zero, ℕ, ◌*◌, ◌++◌, ◌+◌, ◌-◌, ◌<◌, ◌==◌, ◌||◌, ◌∙◌, ◌∷◌, ◌≡◌, ◌≤◌}
pub use Rattle.std.proofs.lemmas.Bool.{ltb-true, or_from, or_parts, or_right}
pub use Rattle.std.proofs.lemmas.Bool.Decides.{nat_tests}
pub use Rattle.std.proofs.lemmas.List.{length-drop, map-id, nil_from_length}
pub use Rattle.std.specs.BTreeMap.{insert_entry, is_at}
pub use Rattle.std.specs.List.{AllByRecursion, flat_map, list_any, position_or_len, slice_get}
pub use Rattle.std.specs.Map.{lookup, set_value, values_of}
pub use Rattle.std.specs.Option.{option_copied, option_copied_mut, option_to_list}
pub use Rattle.std.specs.Ordering.{is_eq, is_gt, is_lt, match_ordering, nat_cmp, ordering_reverse}
pub use Rattle.std.specs.Prelude.{find, is_some, sum_by}
pub use Rattle.bfd_demux.proofs.AlikeRows.{nat_level, selector_level, selector_level_back, unaddressed_back}
pub use Rattle.bfd_demux.specs.Rows.{build_fault, has_addresses}
pub use Rattle.bfd_demux.specs.declared.row.RowKind.{RowKind}
pub use Rattle.bfd_script.specs.Ranges.{AreKeys, AreNext, IsChain, IsKey, IsNext, IsReflector, IsRow}
pub use Rattle.bfd_sbfd.specs.declared.reflecting.Reflector.{Reflector}
pub use Rattle.bfd_script.specs.Reading.{is_full, is_named, is_taken, script_of, script_from}
pub use Rattle.bfd_script.specs.Rows.{by_discr, by_number, changed, has_discr, has_number, has_place, has_reflector, has_selector}
pub use Rattle.bfd_script.specs.Rows.{insert_by, inserted, keyed_more, keyed_with, keys_in, keys_of, one_more, pool_by_discr, pooled}
pub use Rattle.bfd_script.specs.Rows.{reflector_discr}
pub use Rattle.bfd_script.specs.Sound.{AreApart, AreConfigs, AreNamed, ArePool}
pub use Rattle.bfd_script.specs.Tables.{AreRows, AreUpTo, IsIndexed, IsPool, IsReading, among}
pub use Rattle.bfd_session.proofs.Tables.{IsElsewhere, no_fault_with, numbers_differ, same_turned}
pub use Rattle.bfd_session.specs.Kinds.{discr_of}
pub use Rattle.bfd_session.specs.Rows.{Ascends, Differs, place_of, row_of, same_selector, table_of}
pub use Rattle.bfd_session.specs.declared.event.SessionConfig.{SessionConfig}
pub use Rattle.std.specs.declared.cmp.Ordering.TheVariants.{Equal, Greater, Less}
pub use Rattle.bfd_session.specs.Step.{IsFit}
pub use Rattle.bfd_script.specs.Secrets.{key_fault}
pub use Rattle.bfd_script.specs.Report.{item_line, packets_sent_by}
