-- Digits that `parse` refuses write a number that is too large.
use Rattle.bfd_script.proofs.FieldsCommon.{◌≡◌, ℕ, ◌+◌, ◌*◌, ◌<◌, ◌≤◌, ◌^◌, arith, suc, true, List, length, Result, Err, inl, inr, rules}
use Rattle.bfd_script.proofs.FieldsCommon.{is_ascii_digit, list_all, digits_value, ParsesUnsigned, cases_lt}
use Rattle.std.proofs.Math.Nat.{le-mul_of_pos_right, mul-le-mul_right, one-le-pow, pow-le-pow_right, pow-suc}
use Rattle.std.proofs.lemmas.Result.{OkIff-at_err}
use Rattle.std.proofs.lemmas.Str.Parse.{IsNumeralModel, numerals_by_value, parse_digits}

pub own : IsNumeralModel (λ ds. list_all is_ascii_digit ds ≡ true) (digits_value 10)
own = numerals_by_value _ (search rules)

-- what is not below the bound is at or above it
not_below : {n : ℕ} → (n < 2 ^ 64 → ⊥) → 2 ^ 64 ≤ n
not_below {n} h = elim (cases_lt n (2 ^ 64)) [ inl low ↦ absurd (h low) | inr high ↦ high ]

pub too_large : {E : Type 0} (e : E) (field : List ℕ) (r : Result ℕ E) → r ≡ Err e → ParsesUnsigned 64 10 field r
    → list_all is_ascii_digit field ≡ true → 0 < length field → 2 ^ 64 ≤ digits_value 10 field
too_large e field r refused parsed digits some = not_below
    (λ low. (OkIff-at_err r _ _ e (parse_digits own 64 field r parsed digits) refused) (some, low))

-- ---- room for the digits that are left

pub room_first : (k : ℕ) → k ≤ 18 → (0 + 1) * 10 ^ k ≤ 10 ^ 18
room_first k few = omega (arith, pow-le-pow_right {n = 10} (omega arith) few)

pub room_now : (n k : ℕ) → (n + 1) * 10 ^ k ≤ 10 ^ 18 → n + 1 ≤ 10 ^ 18
room_now n k room = omega (arith, le-mul_of_pos_right {m = 10 ^ k} (n + 1) (omega (arith, one-le-pow k 10 (omega arith))), room)

turned : (a p : ℕ) → a * (p * 10) ≡ a * 10 * p
turned a p = grind arith

pub room_more : (n d k j : ℕ) → d ≤ 9 → j ≡ suc k → (n + 1) * 10 ^ j ≤ 10 ^ 18 → (n * 10 + d + 1) * 10 ^ k ≤ 10 ^ 18
room_more n d k j small e room =
    let least : (n * 10 + d + 1) * 10 ^ k ≤ (n + 1) * 10 * 10 ^ k = mul-le-mul_right (10 ^ k) (omega (arith, small)) in
    let same : (n + 1) * 10 ^ j ≡ (n + 1) * 10 * 10 ^ k = rw (e, pow-suc 10 k) (turned (n + 1) (10 ^ k)) in
    omega (arith, least, same, room)
