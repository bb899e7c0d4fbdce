-- What stands at a place of a text, byte by byte.
use Rattle.bfd_script.proofs.FieldsCommon.{◌≡◌, ℕ, ◌+◌, ◌*◌, ◌^◌, ◌<◌, ◌≤◌, ◌==◌, ◌&&◌, not, Bool, true, false, List, [], ◌∷◌, ◌++◌}
use Rattle.bfd_script.proofs.FieldsCommon.{length, drop, Ok, refl, ap, sym, ◌∙◌, arith, nat_tests, nat_lt, slice_index, list_all, and_parts}
use Rattle.bfd_script.proofs.FieldsCommon.{append_assoc, digit_value, is_ascii_digit, digits_value, is_number, number_in}
use Rattle.bfd_script.proofs.Common.{length-append}
use Rattle.std.proofs.lemmas.Int.Digits.{digits_value_push}
use Rattle.std.proofs.lemmas.List.{drop_more}
use Rattle.std.proofs.lemmas.Str.Parse.{digits_value_short}
use Rattle.bfd_script.proofs.Decimal.{own}
use Rattle.bfd_script.specs.Windows.{HasNumber, IsField, IsVisible, Reads}

-- a byte, and what stands behind it
pub byte_at : (text : List ℕ) (at to : ℕ) {byte : ℕ} → to ≡ at + 1 → at < length text → slice_index text at ≡ byte
    → drop at text ≡ byte ∷ drop to text
byte_at text at to next within e = rw next (drop_more text at 0 within ∙ ap (λ byte. byte ∷ drop (at + 1) text) e)

-- ---- a number

digit : {d : ℕ} → d ≤ 9 → is_ascii_digit (48 + d) ≡ true
digit few = grind (arith, nat_tests)

value : {d : ℕ} → d ≤ 9 → digit_value (48 + d) ≡ d
value few = grind (arith, nat_tests)

-- its first digit
pub number_one : (text : List ℕ) (from : ℕ) {d : ℕ} → from < length text → d ≤ 9 → slice_index text from ≡ 48 + d
    → HasNumber text from (from + 1) d
number_one text from {d} within few e = record {
  digits = (48 + d) ∷ [];
  number = rw (digit few) refl;
  here = byte_at text from (from + 1) refl within e;
  long = omega arith;
  value = rw (value few) (omega arith);
}

all_push : (digits : List ℕ) (byte : ℕ) → list_all is_ascii_digit digits ≡ true → is_ascii_digit byte ≡ true
    → list_all is_ascii_digit (digits ++ (byte ∷ [])) ≡ true
all_push [] byte all e = rw e refl
all_push (a ∷ digits) byte all e =
    let parts = and_parts (is_ascii_digit a) (list_all is_ascii_digit digits) all in
    rw (parts.0, all_push digits byte parts.1 e) refl

-- the parts of the test of a number
parts_step : (all some more zero : Bool) → (all && some && not (more && zero)) ≡ true → (all ≡ true) × (some ≡ true) × (more ≡ true → zero ≡ false)
parts_step true true true false h = (refl, refl, λ e. refl)
parts_step true true false zero h = (refl, refl, λ e. cc)
parts_step all some more zero h = cc

pub number_parts : (digits : List ℕ) → is_number digits ≡ true → (list_all is_ascii_digit digits ≡ true)
    × (nat_lt 0 (length digits) ≡ true) × (nat_lt 1 (length digits) ≡ true → (slice_index digits 0 == 48) ≡ false)
number_parts digits is =
    parts_step (list_all is_ascii_digit digits) (nat_lt 0 (length digits)) (nat_lt 1 (length digits)) (slice_index digits 0 == 48) is

-- a number above zero that one more digit may follow has no zero before it
led : (a : ℕ) (digits : List ℕ) → is_number (a ∷ digits) ≡ true → 0 < digits_value 10 (a ∷ digits) → (a == 48) ≡ false
led a [] is some = grind (arith, nat_tests)
led a (b ∷ digits) is some = (number_parts (a ∷ b ∷ digits) is).2 (grind (arith, nat_tests))

push_step : (all some more zero : Bool) → all ≡ true → some ≡ true → zero ≡ false → (all && some && not (more && zero)) ≡ true
push_step all some true zero a b e = rw (a, b, e) refl
push_step all some false zero a b e = rw (a, b) refl

number_push : (digits : List ℕ) (byte : ℕ) → is_number digits ≡ true → 0 < digits_value 10 digits → is_ascii_digit byte ≡ true
    → is_number (digits ++ (byte ∷ [])) ≡ true
number_push [] byte is some e = absurd (omega (arith, some))
number_push (a ∷ digits) byte is some e =
    let longer : List ℕ = a ∷ (digits ++ (byte ∷ [])) in
    push_step (list_all is_ascii_digit longer) (nat_lt 0 (length longer)) (nat_lt 1 (length longer)) (a == 48)
    (all_push (a ∷ digits) byte (number_parts (a ∷ digits) is).0 e) (grind (arith, nat_tests)) (led a digits is some)

-- one more digit behind a number above zero
pub number_more : {text : List ℕ} {from at n d : ℕ} (to : ℕ) → to ≡ at + 1 → HasNumber text from at n → 0 < n → at < length text → d ≤ 9
    → slice_index text at ≡ 48 + d → HasNumber text from to (n * 10 + d)
number_more {text} {from} {at} {n} {d} to next h some within few e = record {
  digits = h.digits ++ ((48 + d) ∷ []);
  number = number_push h.digits (48 + d) h.number (omega (arith, some, h.value)) (digit few);
  here = h.here ∙ ap (λ rest. h.digits ++ rest) (byte_at text at to next within e) ∙ sym (append_assoc h.digits ((48 + d) ∷ []) (drop to text));
  long = omega (arith, next, h.long, length-append h.digits ((48 + d) ∷ []));
  value = digits_value_push 10 h.digits (48 + d) ∙ rw (h.value, value few) refl;
}

-- a number of few digits is small
pub number_small : {text : List ℕ} {from at n : ℕ} → HasNumber text from at n → at ≤ from + 17 → n < 10 ^ 17
number_small h few = omega (
  arith,
  h.value,
  digits_value_short own h.digits 17 (number_parts h.digits h.number).0
      (omega (arith, few, h.long)),
)

-- ---- a field

digit_seen : {byte : ℕ} → is_ascii_digit byte ≡ true → IsVisible byte
digit_seen e = grind (arith, nat_tests)

digits_seen : (digits : List ℕ) → list_all is_ascii_digit digits ≡ true → IsField digits
digits_seen [] all = tt
digits_seen (a ∷ digits) all =
    let parts = and_parts (is_ascii_digit a) (list_all is_ascii_digit digits) all in
    (digit_seen parts.0, digits_seen digits parts.1)

number_read : {least most n : ℕ} (digits : List ℕ) → is_number digits ≡ true → digits_value 10 digits ≡ n → least ≤ n → n ≤ most
    → number_in least most digits ≡ Ok n
number_read {least} {most} {n} digits is e low high =
    let above : nat_lt n least ≡ false = grind (arith, nat_tests) in
    let below : nat_lt most n ≡ false = grind (arith, nat_tests) in
    rw (is, e, above, below) refl

-- a number of a range before a separator
pub number_ends : {text : List ℕ} {from at n least most separator : ℕ} (to : ℕ) → to ≡ at + 1 → HasNumber text from at n → at < length text
    → slice_index text at ≡ separator → least ≤ n → n ≤ most → Reads (number_in least most) separator text from to n
number_ends {text} {from} {at} to next h within e low high = record {
  field = h.digits;
  visible = digits_seen h.digits (number_parts h.digits h.number).0;
  here = h.here ∙ ap (λ rest. h.digits ++ rest) (byte_at text at to next within e);
  long = omega (arith, next, h.long);
  says = number_read h.digits h.number h.value low high;
}
