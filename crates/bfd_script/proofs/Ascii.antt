-- Digits are ASCII, so they are text.
use Rattle.bfd_script.proofs.FieldsCommon.{◌≡◌, ℕ, ◌<◌, true, List, [], ◌∷◌, arith, suc, zero, nat_tests, slice_index, is_ascii_digit}
use Rattle.bfd_script.proofs.FieldsCommon.{list_all, IsUtf8}
use Rattle.std.proofs.lemmas.Str.{IsUtf8-from_ascii}

digits_at : (field : List ℕ) → list_all is_ascii_digit field ≡ true → (i : ℕ) → slice_index field i < 128
digits_at [] all i = omega arith
digits_at (byte ∷ field) all zero = grind (arith, nat_tests)
digits_at (byte ∷ field) all (suc i) = digits_at field (grind (arith, nat_tests)) i

pub digits_are_utf8 : (field : List ℕ) → list_all is_ascii_digit field ≡ true → IsUtf8 field
digits_are_utf8 field all = IsUtf8-from_ascii field (digits_at field all)
