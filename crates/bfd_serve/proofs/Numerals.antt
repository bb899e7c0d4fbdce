-- Numbers, written and read again.
use Rattle.bfd_serve.proofs.SpellingCommon.{◌≡◌, ℕ, ◌<◌, ◌≤◌, ◌^◌, ◌==◌, Bool, true, false, ◌&&◌, List, [], ◌∷◌, length, Ok, refl, arith}
use Rattle.bfd_serve.proofs.SpellingCommon.{nat_lt, inl, inr, nat_tests, cases_lt, and_parts, slice_index, decimal, list_all}
use Rattle.bfd_serve.proofs.SpellingCommon.{AllByRecursion, is_number, number_in}
use Rattle.std.proofs.lemmas.Fmt.{digits_decimal, digits_value-decimal, decimal_nonempty, first_decimal, decimal_digit, length-decimal-le}
use Rattle.std.specs.Char.{is_ascii_digit}
use Rattle.bfd_script.proofs.Decimal.{own}
use Rattle.bfd_script.specs.Windows.{IsField}

-- a decimal digit
record IsDigit (byte : ℕ) : Type 0 where
  above : 48 ≤ byte
  below : byte ≤ 57

digit_at : (b : ℕ) → is_ascii_digit b ≡ true → IsDigit b
digit_at b h = grind (arith, nat_tests)

each_digit : (ds : List ℕ) → list_all is_ascii_digit ds ≡ true → AllByRecursion IsDigit ds
each_digit [] h = tt
each_digit (d ∷ ds) h = let e = and_parts (is_ascii_digit d) (list_all is_ascii_digit ds) h in (digit_at d e.0, each_digit ds e.1)

digits : {n : ℕ} → n < 2 ^ 64 → AllByRecursion IsDigit (decimal n)
digits {n} h = each_digit (decimal n) (digits_decimal own n h)

visible : (ds : List ℕ) → AllByRecursion IsDigit ds → IsField ds
visible [] all = tt
visible (d ∷ ds) all = (
  let low = all.0.above in let high = all.0.below in record { above = omega arith; below = omega arith },
  visible ds all.1,
)

pub number_field : (n : ℕ) → n < 2 ^ 64 → IsField (decimal n)
number_field n h = visible (decimal n) (digits h)

dotless : (ds : List ℕ) → AllByRecursion IsDigit ds → AllByRecursion (λ b. (b == 46) ≡ false) ds
dotless [] all = tt
dotless (d ∷ ds) all = (let low = all.0.above in grind (arith, nat_tests), dotless ds all.1)

-- the digits have no dot
pub number_dotless : (n : ℕ) → n < 2 ^ 64 → AllByRecursion (λ b. (b == 46) ≡ false) (decimal n)
number_dotless n h = dotless (decimal n) (digits h)

pub number_short : (n : ℕ) → n < 2 ^ 64 → length (decimal n) ≤ 20
number_short n h = length-decimal-le 20 n (omega arith) (omega arith) h

pub octet_short : {n : ℕ} → n < 256 → length (decimal n) ≤ 3
octet_short {n} h = length-decimal-le 3 n (omega arith) (omega arith) (omega arith)

led : (b : Bool) {d : ℕ} → 48 < d → (b && (d == 48)) ≡ false
led true h = grind (arith, nat_tests)
led false h = refl

-- no leading zero
no_zero : {n : ℕ} → n < 2 ^ 64 → (nat_lt 1 (length (decimal n)) && (slice_index (decimal n) 0 == 48)) ≡ false
no_zero {n} h = elim (cases_lt 0 n) [
  | inl some ↦ led (nat_lt 1 (length (decimal n))) (first_decimal n some h)
  | inr none ↦ let zero : n ≡ 0 = omega arith in rw (zero, decimal_digit 0 (omega arith)) refl
]

is_number_again : {n : ℕ} → n < 2 ^ 64 → is_number (decimal n) ≡ true
is_number_again {n} h =
    let some = decimal_nonempty n h in
    let longer : nat_lt 0 (length (decimal n)) ≡ true = grind (arith, nat_tests) in
    rw (digits_decimal own n h, longer, no_zero h) refl

pub number_again : (least most n : ℕ) → least ≤ n → n ≤ most → n < 2 ^ 64 → number_in least most (decimal n) ≡ Ok n
number_again least most n low high h =
    let not_low : nat_lt n least ≡ false = grind (arith, nat_tests) in
    let not_high : nat_lt most n ≡ false = grind (arith, nat_tests) in
    rw (is_number_again h, digits_value-decimal own n h, not_low, not_high) refl
