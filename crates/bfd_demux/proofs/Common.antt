-- Names that proofs of this crate cite, passed on from one place. Declares nothing.
pub use Rattle.std.proofs.Common.{Bool, Err, IfOk, IfSome, List, None, Ok, Option, Result, Some, [], add-one, add-zero, ap, append_assoc}
pub use Rattle.std.proofs.Common.{arith, cond, drop, drop-cons, false, find, get_or, if◌then◌else◌, inl, inr, length, map, nat_lt, not}
pub use Rattle.std.proofs.Common.{position, refl, rules, subst, suc, sym, take, tests, true, zero, ℕ, ◌&&◌, ◌*◌, ◌++◌, ◌+◌, ◌-◌, ◌/◌, ◌<◌}
pub use Rattle.std.proofs.Common.{◌==◌, ◌^◌, ◌||◌, ◌∙◌, ◌∷◌, ◌≡◌, ◌≢◌, ◌≤◌, ◌⊎◌}
pub use Rattle.std.proofs.lemmas.Bool.{and_parts, cases_eq, eq-eqb, eqb-true}
pub use Rattle.std.proofs.lemmas.Bool.Decides.{leb_tells, nat_tests}
pub use Rattle.std.proofs.lemmas.List.{append-nil, get_or_read, length-map}
pub use Rattle.std.proofs.lemmas.List.Sorted.{answers_always, length_permutation, list_any-IsPermutation, sorted_far, sum_by-IsPermutation}
pub use Rattle.std.specs.BTreeMap.{get}
pub use Rattle.std.specs.Cmp.{IsTotalOrder, alike_right, eq_by_cmp_equiv, tied_itself}
pub use Rattle.std.specs.List.{filter, list_any, position_from}
pub use Rattle.std.specs.Option.{option_map, option_or}
pub use Rattle.std.specs.Ordering.{is_eq, is_lt, nat_cmp, ordering_reverse, ordering_then}
pub use Rattle.std.specs.declared.cmp.Ordering.{Ordering}
pub use Rattle.std.specs.declared.cmp.Ordering.TheVariants.{Equal, Greater, Less}
pub use Rattle.bfd_demux.specs.Index.{IsIndex, addresses_of, discrs_of, heard_on, is_heard, name_discr, name_in, name_on, names_a_session}
pub use Rattle.bfd_demux.specs.Index.{names_before, names_of, row_name}
pub use Rattle.bfd_demux.specs.Parts.{echo_target, first_echo_failing, first_past_header, first_session_failing, index_on, names_session}
pub use Rattle.bfd_demux.specs.Parts.{target_named}
pub use Rattle.bfd_demux.specs.Rows.{add_fault, build_fault, early_fault, fault_kind, first_repeat, has_addresses, pair_fault, repeat_after}
pub use Rattle.bfd_demux.specs.Rows.{same_addresses, same_discr, same_selector}
pub use Rattle.bfd_demux.specs.Selection.{first_failing_on, is_by_addresses, is_echo_form, is_multipoint, is_of_kind, is_session, knows}
pub use Rattle.bfd_demux.specs.Selection.{names_on, only, reflector_index, row_has_discr, row_has_selector, selector_on, session_index}
pub use Rattle.bfd_demux.specs.Selection.{table_fails, tail_selector, tests_on_header, tests_on_table, the_one}
pub use Rattle.bfd_demux.specs.Table.{HasKeysOnce, HasSame, IsAscending, IsPlaceOf, IsSlotFor, how_many}
pub use Rattle.bfd_demux.specs.declared.row.Row.{Row}
pub use Rattle.bfd_demux.specs.declared.row.RowKind.{RowKind}
pub use Rattle.bfd_demux.specs.declared.row.RowKind.TheVariants.{Head, Multi, Reflect, Initiator, Single, Tail}
pub use Rattle.bfd_packet.specs.HeaderTests.{header_fails, read_of, unless}
pub use Rattle.bfd_packet.specs.declared.arrival.Port.{Port}
pub use Rattle.bfd_packet.specs.declared.discard.Test.TheVariants.{EchoForm, MultipointYour, NoSession, NoTail, YourUnknown, YourZeroState}
pub use Rattle.bfd_demux.specs.declared.name.Name.TheVariants.{Reflector, Session}
pub use Rattle.bfd_demux.specs.contracts.row.RowKindOrd.TheImpl.Laws.{total-law}
pub use Rattle.std.proofs.Math.Nat.{eq-or-lt_of_le, mul-le-mul_left, pow-le-pow_right}
pub use Rattle.std.proofs.lemmas.List.Elements.{filter_agree}
pub use Rattle.bfd_demux.specs.declared.name.Name.{Name}
