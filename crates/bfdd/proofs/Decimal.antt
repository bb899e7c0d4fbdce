-- Digits that `parse` refuses write a number that is too large.
use Rattle.std.proofs.Common.{◌≡◌, ℕ, ◌<◌, ◌≤◌, ◌^◌, true, List, length, Result, Err, inl, inr, rules}
use Rattle.std.specs.Char.{is_ascii_digit}
use Rattle.std.specs.List.{list_all}
use Rattle.std.specs.Str.Parse.{digits_value, ParsesUnsigned}
use Rattle.std.proofs.lemmas.Result.{OkIff-at_err}
use Rattle.std.proofs.lemmas.Str.Parse.{IsNumeralModel, numerals_by_value, parse_digits}
use Rattle.std.proofs.lemmas.Bool.{cases_lt}

own : IsNumeralModel (λ ds. list_all is_ascii_digit ds ≡ true) (digits_value 10)
own = numerals_by_value _ (search rules)

pub too_large : {E : Type 0} (e : E) (word : List ℕ) (r : Result ℕ E) → r ≡ Err e → ParsesUnsigned 32 10 word r
    → list_all is_ascii_digit word ≡ true → 0 < length word → 2 ^ 32 ≤ digits_value 10 word
too_large e word r refused parsed digits some = elim (cases_lt (digits_value 10 word) (2 ^ 32)) [
  | inl low ↦ absurd (OkIff-at_err r _ _ e (parse_digits own 32 word r parsed digits) refused (some, low))
  | inr high ↦ high
]
