-- The numbers of an address, digit by digit.
use Rattle.bfd_script.proofs.FieldsCommon.{◌≡◌, ℕ, ◌+◌, ◌-◌, ◌*◌, ◌/◌, ◌%◌, ◌<◌, ◌≤◌, ◌==◌, cond, Bool, true, false, List, [], ◌∷◌, length}
use Rattle.bfd_script.proofs.FieldsCommon.{take, drop, Ok, Err, refl, ◌∙◌, sym, arith, nat_tests, length-drop, nat_lt, slice_index}
use Rattle.bfd_script.proofs.FieldsCommon.{digit_value, is_ascii_digit, before_first, slice_split, digits_value, is_number, address_by}
use Rattle.bfd_script.proofs.FieldsCommon.{address_of, dotted_of, octet_of, quad_of, V4, take-length}
use Rattle.hex.specs.declared.error.FromHexError.TheVariants.{InvalidStringLength, OddLength}
use Rattle.bfd_script.proofs.Cutting.{four}

abbrev is_dot : ℕ → Bool
is_dot byte = byte == 46

-- ---- one number

by_value : (field : List ℕ) {v : ℕ} → is_number field ≡ true → digits_value 10 field ≡ v → v < 256 → octet_of field ≡ Ok v
by_value field {v} is e small =
    let low : nat_lt v 0 ≡ false = grind (arith, nat_tests) in
    let high : nat_lt 255 v ≡ false = grind (arith, nat_tests) in
    rw (is, e, low, high) refl

value : {a : ℕ} → 48 ≤ a → a ≤ 57 → digit_value a ≡ a - 48
value low high = grind (arith, nat_tests)

digit : {a : ℕ} → 48 ≤ a → a ≤ 57 → is_ascii_digit a ≡ true
digit low high = grind (arith, nat_tests)

octet_1 : {a : ℕ} → 48 ≤ a → a ≤ 57 → octet_of (a ∷ []) ≡ Ok (a - 48)
octet_1 {a} low high = by_value (a ∷ []) (rw (digit low high) refl) (rw (value low high) (omega arith)) (omega arith)

octet_2 : {a b : ℕ} → 49 ≤ a → a ≤ 57 → 48 ≤ b → b ≤ 57 → octet_of (a ∷ b ∷ []) ≡ Ok ((a - 48) * 10 + (b - 48))
octet_2 {a} {b} low high least most =
    let led : (a == 48) ≡ false = grind (arith, nat_tests) in
    by_value (a ∷ b ∷ []) (rw (digit (omega arith) high, digit least most, led) refl)
    (rw (value (omega arith) high, value least most) (omega arith)) (omega arith)

octet_3 : {a b c : ℕ} → 49 ≤ a → a ≤ 57 → 48 ≤ b → b ≤ 57 → 48 ≤ c → c ≤ 57 → (a - 48) * 100 + (b - 48) * 10 + (c - 48) < 256
    → octet_of (a ∷ b ∷ c ∷ []) ≡ Ok ((a - 48) * 100 + (b - 48) * 10 + (c - 48))
octet_3 {a} {b} {c} low high least most least' most' small =
    let led : (a == 48) ≡ false = grind (arith, nat_tests) in
    by_value (a ∷ b ∷ c ∷ []) (rw (digit (omega arith) high, digit least most, digit least' most', led) refl)
    (rw (value (omega arith) high, value least most, value least' most') (omega arith)) small

-- ---- a number and its dot

abbrev Part : List ℕ → ℕ → List ℕ → Type 0
Part field n rest = (octet_of (before_first (λ byte. byte == 46) field) ≡ Ok n)
    × (slice_split (λ byte. byte == 46) field ≡ before_first (λ byte. byte == 46) field ∷ slice_split (λ byte. byte == 46) rest)

no_dot : (a : ℕ) → 48 ≤ a → (a == 46) ≡ false
no_dot a low = grind (arith, nat_tests)

-- the rest of a pattern
behind : (n : ℕ) (field : List ℕ) → take (length field - n) (drop n field) ≡ drop n field
behind n field = cc (length-drop n field, take-length (drop n field))

pub part_1 : (field : List ℕ) {rest : List ℕ} → 2 ≤ length field → 48 ≤ slice_index field 0 → slice_index field 0 ≤ 57
    → slice_index field 1 ≡ 46
    → rest ≡ take (length field - 2) (drop 2 field) → Part field (slice_index field 0 - 48) rest
part_1 (a ∷ y ∷ bytes) long low high dot e = rw (e ∙ behind 2 (a ∷ y ∷ bytes), dot, no_dot a low) (octet_1 low high, refl)
part_1 field long low high dot e = absurd (omega (arith, long))

pub part_2 : (field : List ℕ) {rest : List ℕ} → 3 ≤ length field → 49 ≤ slice_index field 0 → slice_index field 0 ≤ 57
    → 48 ≤ slice_index field 1
    → slice_index field 1 ≤ 57 → slice_index field 2 ≡ 46 → rest ≡ take (length field - 3) (drop 3 field)
    → Part field ((slice_index field 0 - 48) * 10 + (slice_index field 1 - 48)) rest
part_2 (a ∷ b ∷ y ∷ bytes) long low high least most dot e =
    rw (e ∙ behind 3 (a ∷ b ∷ y ∷ bytes), dot, no_dot a (omega (arith, low)), no_dot b least) (octet_2 low high least most, refl)
part_2 field long low high least most dot e = absurd (omega (arith, long))

pub part_3 : (field : List ℕ) {rest : List ℕ} → 4 ≤ length field → 49 ≤ slice_index field 0 → slice_index field 0 ≤ 57
    → 48 ≤ slice_index field 1
    → slice_index field 1 ≤ 57 → 48 ≤ slice_index field 2 → slice_index field 2 ≤ 57 → slice_index field 3 ≡ 46
    → rest ≡ take (length field - 4) (drop 4 field)
    → {n : ℕ} → n ≡ (slice_index field 0 - 48) * 100 + (slice_index field 1 - 48) * 10 + (slice_index field 2 - 48) → n < 256
    → Part field n rest
part_3 (a ∷ b ∷ c ∷ y ∷ bytes) long low high least most least' most' dot e says small =
    rw (says, e ∙ behind 4 (a ∷ b ∷ c ∷ y ∷ bytes), dot, no_dot a (omega (arith, low)), no_dot b least, no_dot c least')
    (octet_3 low high least most least' most' (omega (arith, says, small)), refl)
part_3 field long low high least most least' most' dot e says small = absurd (omega (arith, long))

-- ---- the last number

pub end_1 : (field : List ℕ) → length field ≡ 1 → 48 ≤ slice_index field 0 → slice_index field 0 ≤ 57
    → octet_of field ≡ Ok (slice_index field 0 - 48)
end_1 (a ∷ []) long low high = octet_1 low high
end_1 field long low high = absurd (omega (arith, long))

pub end_2 : (field : List ℕ) → length field ≡ 2 → 49 ≤ slice_index field 0 → slice_index field 0 ≤ 57 → 48 ≤ slice_index field 1
    → slice_index field 1 ≤ 57 → octet_of field ≡ Ok ((slice_index field 0 - 48) * 10 + (slice_index field 1 - 48))
end_2 (a ∷ b ∷ []) long low high least most = octet_2 low high least most
end_2 field long low high least most = absurd (omega (arith, long))

pub end_3 : (field : List ℕ) → length field ≡ 3 → 49 ≤ slice_index field 0 → slice_index field 0 ≤ 57 → 48 ≤ slice_index field 1
    → slice_index field 1 ≤ 57 → 48 ≤ slice_index field 2 → slice_index field 2 ≤ 57
    → {n : ℕ} → n ≡ (slice_index field 0 - 48) * 100 + (slice_index field 1 - 48) * 10 + (slice_index field 2 - 48) → n < 256
    → octet_of field ≡ Ok n
end_3 (a ∷ b ∷ c ∷ []) long low high least most least' most' says small =
    rw says (octet_3 low high least most least' most' (omega (arith, says, small)))
end_3 field long low high least most least' most' says small = absurd (omega (arith, long))

-- ---- all four

parts_by : (field r s t : List ℕ) {pa pb pc : List ℕ} → slice_split is_dot field ≡ pa ∷ slice_split is_dot r
    → slice_split is_dot r ≡ pb ∷ slice_split is_dot s
    → slice_split is_dot s ≡ pc ∷ slice_split is_dot t → dotted_of (slice_split is_dot field) ≡ quad_of pa pb pc t
parts_by field r s t {pa} {pb} {pc} a b c = rw (a, b, c) (sym (four pa pb pc t))

pub quad_is : (pa pb pc pd : List ℕ) {a b c d : ℕ} → octet_of pa ≡ Ok a → octet_of pb ≡ Ok b → octet_of pc ≡ Ok c → octet_of pd ≡ Ok d
    → quad_of pa pb pc pd ≡ Ok (V4 (((a * 256 + b) * 256 + c) * 256 + d))
unfolding quad_of
quad_is pa pb pc pd ea eb ec ed = rw (ea, eb, ec, ed) refl

-- the numbers of the first three parts, and that of the last
pub quad_by_parts : (field r s t : List ℕ) {a b c d : ℕ} → Part field a r → Part r b s → Part s c t → octet_of t ≡ Ok d
    → dotted_of (slice_split (λ byte. byte == 46) field) ≡ Ok (V4 (((a * 256 + b) * 256 + c) * 256 + d))
quad_by_parts field r s t pa pb pc pd = parts_by field r s t pa.1 pb.1 pc.1 ∙ quad_is _ _ _ t pa.0 pb.0 pc.0 pd

-- ---- no hexadecimal digits

by_parity : (odd : Bool) (field : List ℕ) {n : ℕ} → dotted_of (slice_split (λ byte. byte == 46) field) ≡ Ok (V4 n)
    → address_by (cond odd (Err OddLength) (Err InvalidStringLength)) field ≡ Ok (V4 n)
by_parity true field e = e
by_parity false field e = e

-- a field of fewer than 32 bytes is no address of 32 digits
pub no_digits : (field : List ℕ) (n : ℕ) → length field < 32 → dotted_of (slice_split (λ byte. byte == 46) field) ≡ Ok (V4 n)
    → address_of field ≡ Ok (V4 n)
no_digits field n short e =
    let half : (length field / 2 == 16) ≡ false = grind (arith, nat_tests) in
    rw half (by_parity (length field % 2 == 1) field e)
