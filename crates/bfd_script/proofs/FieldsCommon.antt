-- Names that proofs of this crate cite, passed on from one place. Declares nothing.
pub use Rattle.std.proofs.Common.{Bool, Err, List, None, Ok, Option, Result, Some, [], ap, arith, bit_and, bit_or, cond, drop, eqb}
pub use Rattle.std.proofs.Common.{eqb-true, false, get_or, inl, inr, length, ltb, ltb-false, map, not, refl, replicate, rules, subst, suc}
pub use Rattle.std.proofs.Common.{sym, take, true, unwrap_or, w8, zero, ℕ, ◌%◌, ◌&&◌, ◌*◌, ◌++◌, ◌+◌, ◌-◌, ◌/◌, ◌<◌, ◌==◌, ◌^◌, ◌||◌, ◌∙◌}
pub use Rattle.std.proofs.Common.{◌∷◌, ◌≡◌, ◌≤◌}
pub use Rattle.std.proofs.lemmas.Bool.{and_parts, cases_eq, cases_lt, false_from_ne_true}
pub use Rattle.std.proofs.lemmas.Bool.Decides.{nat_tests}
pub use Rattle.std.proofs.lemmas.List.{append-nil, append_assoc, drop-drop, drop-map, drop-take, length-drop, length-map, length-take-le}
pub use Rattle.std.proofs.lemmas.List.{take-append-drop}
pub use Rattle.std.proofs.lemmas.Simd.{bitmask_splat, leading_from_mask_l, length-zip2, mask_l-mod, trailing_mask_l}
pub use Rattle.std.specs.Char.{digit_value, is_ascii_digit}
pub use Rattle.std.specs.List.{before_first, list_all, onto_first, position_or_len, prefix_len, slice_split}
pub use Rattle.std.specs.Prelude.{codes, nat_lt, slice_index}
pub use Rattle.std.specs.Simd.Lanes.{Each1, chunk, mask_l, sel_l, top, zip2}
pub use Rattle.std.specs.Str.Parse.{ParsesUnsigned, digits_value, digits_value_after}
pub use Rattle.bfd_script.specs.Fields.{is_number, is_printable, lines_of, number_in, onto_line, split_fields}
pub use Rattle.bfd_script.specs.Values.{address_by, address_of, decoded, dotted_of, octet_of, part_of, payload_of}
unfoldable pub use Rattle.bfd_script.specs.Values.{quad_of}
pub use Rattle.hex.specs.Hex.{IsBytes, decode_sized, digit_or_error, encode_lower, hex_digit_value, lower_digits, pair_value}
unfoldable pub use Rattle.hex.specs.Hex.{decode_pairs, encode_with}
pub use lib.Count.{count_trailing_zeros}
pub use Rattle.std.specs.Str.{IsUtf8, bytes_eq}
pub use Rattle.std.proofs.lemmas.List.Sums.{position_or_len_is, prefix_len-le-length, prefix_len_is}
pub use Rattle.memchr.specs.Find.{NoneBefore, Nowhere, Passes, is_byte}
pub use Rattle.bfd_script.specs.Gives.{◌>>=◌}
pub use Rattle.bfd_packet.specs.declared.arrival.Addr.TheVariants.{V4}
pub use Rattle.hex.proofs.HexLemmas.{decode_sized-odd, decode_sized-other, decode_sized-twice}
pub use Rattle.std.proofs.Math.Seq.{take-length}
