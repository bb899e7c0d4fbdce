-- Hexadecimal digits that are read and written side by side.
use Rattle.bfd_script.proofs.FieldsCommon.{inl, inr, ◌++◌, ◌≡◌, ℕ, zero, suc, ◌+◌, ◌-◌, ◌*◌, ◌/◌, ◌%◌, ◌^◌, ◌<◌, ◌==◌, ◌&&◌, ◌||◌, cond}
use Rattle.bfd_script.proofs.FieldsCommon.{Bool, true, false, List, [], ◌∷◌, length, map, replicate, get_or, slice_index, bit_and, bit_or}
use Rattle.bfd_script.proofs.FieldsCommon.{eqb, eqb-true, ltb, Option, Some, None, unwrap_or, Result, Ok, Err, take, drop, refl, ap, sym}
use Rattle.bfd_script.proofs.FieldsCommon.{◌∙◌, arith, and_parts, cases_eq, cases_lt, nat_tests, append_assoc, append-nil, take-append-drop}
use Rattle.bfd_script.proofs.FieldsCommon.{mask_l-mod, slice_split, Each1, chunk, mask_l, sel_l, top, zip2, decode_pairs, decode_sized}
use Rattle.bfd_script.proofs.FieldsCommon.{digit_or_error, encode_lower, encode_with, hex_digit_value, lower_digits, pair_value, address_of}
use Rattle.bfd_script.proofs.FieldsCommon.{dotted_of, decode_sized-odd, decode_sized-other}
use Rattle.hex.specs.Hex.{◌>>=◌}
use Rattle.hex.specs.declared.error.FromHexError.{FromHexError}
use Rattle.hex.proofs.Pairs.{decode_pairs-ok_pair, decode_sized-pairs}
use Rattle.bfd_script.specs.Spelling.{hex_field}

-- what passes for each number below n
all_below : (ℕ → Bool) → ℕ → Bool
all_below test zero = true
all_below test (suc n) = test n && all_below test n

at : (test : ℕ → Bool) (n k : ℕ) → all_below test n ≡ true → k < n → test k ≡ true
unfolding all_below
at test zero k all low = absurd (omega arith)
at test (suc n) k all low =
    let parts = and_parts (test n) (all_below test n) all in
    elim (cases_lt k n) [
      | inl below ↦ at test n k parts.1 below
      | inr top ↦
          let e : k ≡ n = omega arith in
          rw e parts.0
    ]

bounded : (xs : List ℕ) → ((k : ℕ) → slice_index xs k < 256) → Each1 (λ x. x < 256) xs
bounded [] fit = tt
bounded (x ∷ xs) fit = (fit 0, bounded xs (λ k. fit (suc k)))

-- ---- reading, lane by lane

abbrev minus : ℕ → ℕ → ℕ
minus a b = (a + (2 ^ 8 - b)) % 2 ^ 8

abbrev plus : ℕ → ℕ → ℕ
plus a b = (a + b) % 2 ^ 8

abbrev under : ℕ → ℕ → ℕ
under a b = cond (ltb a b) 255 0

abbrev figure : ℕ → ℕ
figure x = minus x 48

abbrev letter : ℕ → ℕ
letter x = minus (bit_or x 32) 97

abbrev is_wrong : ℕ → Bool
is_wrong x = top 7 (bit_and (under 9 (figure x)) (under 5 (letter x)))

abbrev value : ℕ → ℕ
value x = cond (top 7 (under 9 (figure x))) (plus (letter x) 10) (figure x)

-- a byte that isn't marked is a digit of this value
abbrev is_read : ℕ → Bool
is_read x = is_wrong x || (ltb (value x) 16 && eqb (unwrap_or (hex_digit_value x) 99) (value x))

all_read : all_below is_read 256 ≡ true
unfolding all_below
all_read = refl

some : (o : Option ℕ) (v : ℕ) → ltb v 16 ≡ true → unwrap_or o 99 ≡ v → o ≡ Some v
some (Some n) v small e = cc
some None v small e = absurd (grind (arith, nat_tests))

digit : {x : ℕ} (wrong : Bool) → is_wrong x ≡ wrong → wrong ≡ false → x < 256 → (hex_digit_value x ≡ Some (value x)) × (value x < 16)
digit true is none low = cc none
digit {x} false is none low =
    let passed : (false || (ltb (value x) 16 && eqb (unwrap_or (hex_digit_value x) 99) (value x))) ≡ true =
    ap (λ b. b || (ltb (value x) 16 && eqb (unwrap_or (hex_digit_value x) 99) (value x))) (sym is) ∙ at is_read 256 x all_read low in
    let parts = and_parts (ltb (value x) 16) (eqb (unwrap_or (hex_digit_value x) 99) (value x)) passed in
    let small = parts.0 in
    (some (hex_digit_value x) _ small (eqb-true _ _ parts.1), grind (arith, nat_tests, small))

abbrev byte : ℕ → ℕ → ℕ
byte h l = plus (h * 2 ^ 4 % 2 ^ 8) l

abbrev pairs : List ℕ → List ℕ
pairs [] = []
pairs (h ∷ []) = []
pairs (h ∷ l ∷ rest) = byte (value h) (value l) ∷ pairs rest

unset : (b : Bool) → ◌≡◌ {A = ℕ} (cond b 1 0) 0 → b ≡ false
unset true e = absurd (omega (arith, e))
unset false e = refl

whole : (h l : ℕ) → h < 16 → l < 16 → h * 16 + l ≡ byte h l
whole h l a b = omega arith

one_pair : (h l i : ℕ) → hex_digit_value h ≡ Some (value h) → hex_digit_value l ≡ Some (value l) → value h < 16 → value l < 16
    → pair_value h l i ≡ Ok (byte (value h) (value l))
one_pair h l i eh el lh ll = rw (ap (digit_or_error h i) eh, ap (digit_or_error l (i + 1)) el) (ap Ok (whole _ _ lh ll))

decoded : (n : ℕ) (xs : List ℕ) → length xs ≡ 2 * n → Each1 (λ x. x < 256) xs → mask_l (map (λ x. is_wrong x) xs) ≡ 0 → (i : ℕ)
    → decode_pairs i xs ≡ Ok (pairs xs)
unfolding decode_pairs
decoded n [] long fit none i = refl
decoded n (h ∷ []) long fit none i = absurd (omega arith)
decoded zero (h ∷ l ∷ rest) long fit none i = absurd (omega arith)
decoded (suc n) (h ∷ l ∷ rest) long fit none i =
    let a = digit _ refl (unset (is_wrong h) (omega (arith, none))) fit.0 in
    let b = digit _ refl (unset (is_wrong l) (omega (arith, none))) fit.1.0 in
    cc (
      decode_pairs-ok_pair i h l _ rest (one_pair h l i a.0 b.0 a.1 b.1),
      (decoded n rest (omega arith) fit.1.1 (omega (arith, none)) (i + 2)),
    )

-- the same, as it is computed
abbrev figures : List ℕ → List ℕ
figures xs = zip2 minus xs (replicate 16 48)

abbrev letters : List ℕ → List ℕ
letters xs = zip2 minus (zip2 bit_or xs (replicate 16 32)) (replicate 16 97)

abbrev marks : List ℕ → ℕ
marks xs = mask_l (map (top 7) (zip2 bit_and (zip2 under (replicate 16 9) (figures xs)) (zip2 under (replicate 16 5) (letters xs))))

abbrev values : List ℕ → List ℕ
values xs = sel_l (map (top 7) (zip2 under (replicate 16 9) (figures xs))) (zip2 plus (letters xs) (replicate 16 10)) (figures xs)

abbrev made : List ℕ → List ℕ
made vs = byte (get_or (vs ++ vs) 0 0) (get_or (vs ++ vs) 1 0) ∷ byte (get_or (vs ++ vs) 2 0) (get_or (vs ++ vs) 3 0) ∷ byte
    (get_or (vs ++ vs) 4 0) (get_or (vs ++ vs) 5 0) ∷ byte (get_or (vs ++ vs) 6 0) (get_or (vs ++ vs) 7 0) ∷ byte (get_or (vs ++ vs) 8 0)
    (get_or (vs ++ vs) 9 0) ∷ byte (get_or (vs ++ vs) 10 0) (get_or (vs ++ vs) 11 0) ∷ byte (get_or (vs ++ vs) 12 0)
    (get_or (vs ++ vs) 13 0) ∷ byte (get_or (vs ++ vs) 14 0) (get_or (vs ++ vs) 15 0) ∷ []

pub run_decoded : (xs : List ℕ) → length xs ≡ 16 → ((k : ℕ) → slice_index xs k < 256) → marks (chunk 0 16 xs) % 2 ^ 64 ≡ 0 → (i : ℕ)
    → decode_pairs i xs ≡ Ok (made (values (chunk 0 16 xs)))
run_decoded [] long fit none i = absurd (omega arith)
run_decoded (x0 ∷ []) long fit none i = absurd (omega arith)
run_decoded (x0 ∷ x1 ∷ []) long fit none i = absurd (omega arith)
run_decoded (x0 ∷ x1 ∷ x2 ∷ []) long fit none i = absurd (omega arith)
run_decoded (x0 ∷ x1 ∷ x2 ∷ x3 ∷ []) long fit none i = absurd (omega arith)
run_decoded (x0 ∷ x1 ∷ x2 ∷ x3 ∷ x4 ∷ []) long fit none i = absurd (omega arith)
run_decoded (x0 ∷ x1 ∷ x2 ∷ x3 ∷ x4 ∷ x5 ∷ []) long fit none i = absurd (omega arith)
run_decoded (x0 ∷ x1 ∷ x2 ∷ x3 ∷ x4 ∷ x5 ∷ x6 ∷ []) long fit none i = absurd (omega arith)
run_decoded (x0 ∷ x1 ∷ x2 ∷ x3 ∷ x4 ∷ x5 ∷ x6 ∷ x7 ∷ []) long fit none i = absurd (omega arith)
run_decoded (x0 ∷ x1 ∷ x2 ∷ x3 ∷ x4 ∷ x5 ∷ x6 ∷ x7 ∷ x8 ∷ []) long fit none i = absurd (omega arith)
run_decoded (x0 ∷ x1 ∷ x2 ∷ x3 ∷ x4 ∷ x5 ∷ x6 ∷ x7 ∷ x8 ∷ x9 ∷ []) long fit none i = absurd (omega arith)
run_decoded (x0 ∷ x1 ∷ x2 ∷ x3 ∷ x4 ∷ x5 ∷ x6 ∷ x7 ∷ x8 ∷ x9 ∷ x10 ∷ []) long fit none i = absurd (omega arith)
run_decoded (x0 ∷ x1 ∷ x2 ∷ x3 ∷ x4 ∷ x5 ∷ x6 ∷ x7 ∷ x8 ∷ x9 ∷ x10 ∷ x11 ∷ []) long fit none i = absurd (omega arith)
run_decoded (x0 ∷ x1 ∷ x2 ∷ x3 ∷ x4 ∷ x5 ∷ x6 ∷ x7 ∷ x8 ∷ x9 ∷ x10 ∷ x11 ∷ x12 ∷ []) long fit none i = absurd (omega arith)
run_decoded (x0 ∷ x1 ∷ x2 ∷ x3 ∷ x4 ∷ x5 ∷ x6 ∷ x7 ∷ x8 ∷ x9 ∷ x10 ∷ x11 ∷ x12 ∷ x13 ∷ []) long fit none i = absurd (omega arith)
run_decoded (x0 ∷ x1 ∷ x2 ∷ x3 ∷ x4 ∷ x5 ∷ x6 ∷ x7 ∷ x8 ∷ x9 ∷ x10 ∷ x11 ∷ x12 ∷ x13 ∷ x14 ∷ []) long fit none i = absurd (omega arith)
run_decoded (x0 ∷ x1 ∷ x2 ∷ x3 ∷ x4 ∷ x5 ∷ x6 ∷ x7 ∷ x8 ∷ x9 ∷ x10 ∷ x11 ∷ x12 ∷ x13 ∷ x14 ∷ x15 ∷ []) long fit none i =
    let xs : List ℕ = x0 ∷ x1 ∷ x2 ∷ x3 ∷ x4 ∷ x5 ∷ x6 ∷ x7 ∷ x8 ∷ x9 ∷ x10 ∷ x11 ∷ x12 ∷ x13 ∷ x14 ∷ x15 ∷ [] in
    decoded 8 xs refl (bounded xs fit) (cc (mask_l-mod (map (λ x. is_wrong x) xs) 64 (omega arith))) i
run_decoded (x0 ∷ x1 ∷ x2 ∷ x3 ∷ x4 ∷ x5 ∷ x6 ∷ x7 ∷ x8 ∷ x9 ∷ x10 ∷ x11 ∷ x12 ∷ x13 ∷ x14 ∷ x15 ∷ y ∷ ys) long fit none i =
    absurd (omega arith)

-- ---- writing, lane by lane

abbrev written : ℕ → ℕ
written v = cond (top 7 (under 9 v)) (plus v 87) (plus v 48)

abbrev is_written : ℕ → Bool
is_written x = eqb (written (x / 2 ^ 4)) (slice_index lower_digits (x / 16)) && eqb (written (bit_and x 15))
    (slice_index lower_digits (x % 16))

all_written : all_below is_written 256 ≡ true
unfolding all_below
all_written = refl

abbrev digits : List ℕ → List ℕ
digits [] = []
digits (x ∷ xs) = written (x / 2 ^ 4) ∷ written (bit_and x 15) ∷ digits xs

encoded : (xs : List ℕ) → Each1 (λ x. x < 256) xs → digits xs ≡ encode_lower xs
unfolding encode_with
encoded [] fit = refl
encoded (x ∷ xs) fit =
    let parts = and_parts _ _ (at is_written 256 x all_written fit.0) in
    let high : written (x / 2 ^ 4) ≡ slice_index lower_digits (x / 16) = eqb-true _ _ parts.0 in
    cc ((eqb-true _ _ parts.1), encoded xs fit.1)

abbrev halves : List ℕ → List ℕ
halves xs = zip2 (λ a b. a / 2 ^ b) xs (replicate 8 4) ++ zip2 bit_and xs (replicate 8 15)

abbrev nibbles : List ℕ → List ℕ
nibbles xs = get_or (halves xs) 0 0 ∷ get_or (halves xs) 8 0 ∷ get_or (halves xs) 1 0 ∷ get_or (halves xs) 9 0 ∷ get_or (halves xs) 2 0 ∷
    get_or (halves xs) 10 0 ∷ get_or (halves xs) 3 0 ∷ get_or (halves xs) 11 0 ∷ get_or (halves xs) 4 0 ∷ get_or (halves xs) 12 0 ∷ get_or
    (halves xs) 5 0 ∷ get_or (halves xs) 13 0 ∷ get_or (halves xs) 6 0 ∷ get_or (halves xs) 14 0 ∷ get_or (halves xs) 7 0 ∷ get_or
    (halves xs) 15 0 ∷ []

pub run_encoded : (xs : List ℕ) → length xs ≡ 8 → ((k : ℕ) → slice_index xs k < 256)
    → sel_l (map (top 7) (zip2 under (replicate 16 9) (nibbles (chunk 0 8 xs)))) (zip2 plus (nibbles (chunk 0 8 xs)) (replicate 16 87))
    (zip2 plus (nibbles (chunk 0 8 xs)) (replicate 16 48)) ≡ encode_lower xs
run_encoded [] long fit = absurd (omega arith)
run_encoded (x0 ∷ []) long fit = absurd (omega arith)
run_encoded (x0 ∷ x1 ∷ []) long fit = absurd (omega arith)
run_encoded (x0 ∷ x1 ∷ x2 ∷ []) long fit = absurd (omega arith)
run_encoded (x0 ∷ x1 ∷ x2 ∷ x3 ∷ []) long fit = absurd (omega arith)
run_encoded (x0 ∷ x1 ∷ x2 ∷ x3 ∷ x4 ∷ []) long fit = absurd (omega arith)
run_encoded (x0 ∷ x1 ∷ x2 ∷ x3 ∷ x4 ∷ x5 ∷ []) long fit = absurd (omega arith)
run_encoded (x0 ∷ x1 ∷ x2 ∷ x3 ∷ x4 ∷ x5 ∷ x6 ∷ []) long fit = absurd (omega arith)
run_encoded (x0 ∷ x1 ∷ x2 ∷ x3 ∷ x4 ∷ x5 ∷ x6 ∷ x7 ∷ []) long fit =
    encoded (x0 ∷ x1 ∷ x2 ∷ x3 ∷ x4 ∷ x5 ∷ x6 ∷ x7 ∷ []) (bounded (x0 ∷ x1 ∷ x2 ∷ x3 ∷ x4 ∷ x5 ∷ x6 ∷ x7 ∷ []) fit)
run_encoded (x0 ∷ x1 ∷ x2 ∷ x3 ∷ x4 ∷ x5 ∷ x6 ∷ x7 ∷ y ∷ ys) long fit = absurd (omega arith)

-- ---- runs one after another

abbrev pub joined : ℕ → ℕ → ℕ → Option ℕ → Option ℕ → Result (List ℕ) FromHexError → Result (List ℕ) FromHexError
joined i h l o p r = (digit_or_error h i o >>= λ a. digit_or_error l (i + 1) p >>= λ b. Ok (a * 16 + b)) >>= λ v. r >>= λ bytes. Ok
    (v ∷ bytes)

joined_more : (i j h l : ℕ) (o p : Option ℕ) (r q : Result (List ℕ) FromHexError) {front : List ℕ} (more : List ℕ)
    → ((bytes : List ℕ) → r ≡ Ok bytes → q ≡ Ok (bytes ++ more)) → joined i h l o p r ≡ Ok front → joined j h l o p q ≡ Ok (front ++ more)
joined_more i j h l (Some a) (Some b) (Ok x) q more f e = rw (f x refl) (cc)
joined_more i j h l (Some a) (Some b) (Err x) q more f e = cc e
joined_more i j h l (Some a) None r q more f e = cc e
joined_more i j h l None p r q more f e = cc e

-- digits before digits
pub appended : (i j : ℕ) (run rest : List ℕ) {front : List ℕ} (more : List ℕ) → decode_pairs i run ≡ Ok front
    → ((k : ℕ) → decode_pairs k rest ≡ Ok more) → decode_pairs j (run ++ rest) ≡ Ok (front ++ more)
unfolding decode_pairs
appended i j [] rest more e f = cc (f j)
appended i j (h ∷ []) rest more e f = cc e
appended i j (h ∷ l ∷ run) rest more e f = joined_more i j h l (hex_digit_value h) (hex_digit_value l) _
    (decode_pairs (j + 2) (run ++ rest)) more
    (λ bytes same. appended (i + 2) (j + 2) run rest more same f) e

-- what decodes at one place decodes at each
anywhere : (i j : ℕ) (xs : List ℕ) {bytes : List ℕ} → decode_pairs i xs ≡ Ok bytes → decode_pairs j xs ≡ Ok bytes
unfolding decode_pairs
anywhere i j xs {bytes} e = cc (append-nil xs, appended i j xs [] [] e (λ k. refl), append-nil bytes)

-- one more run is decoded
pub run_more : (digits rest : List ℕ) {run after front : List ℕ} (done : List ℕ) {next : List ℕ} → run ≡ take 16 rest → after ≡ drop 16 rest
    → ((i : ℕ) → decode_pairs i run ≡ Ok front) → next ≡ done ++ front
    → ((more : List ℕ) → ((i : ℕ) → decode_pairs i rest ≡ Ok more) → decode_pairs 0 digits ≡ Ok (done ++ more))
    → (more : List ℕ) → ((i : ℕ) → decode_pairs i after ≡ Ok more) → decode_pairs 0 digits ≡ Ok (next ++ more)
run_more digits rest {run} {after} {front} done head tail is put was more all =
    let whole : run ++ after ≡ rest = rw (head, tail) (take-append-drop 16 rest) in
    cc (was (front ++ more) (λ i. cc (whole, appended i i run after more (is i) all)), append_assoc done front more)

-- the digits that are left are decoded
pub rest_more : (digits rest room was : List ℕ) (at : ℕ) → decode_pairs 0 rest ≡ Ok (drop at room) → take at room ≡ take at was
    → ((more : List ℕ) → ((i : ℕ) → decode_pairs i rest ≡ Ok more) → decode_pairs 0 digits ≡ Ok (take at was ++ more))
    → decode_pairs 0 digits ≡ Ok room
rest_more digits rest room was at e front all = cc (all (drop at room) (λ i. anywhere 0 i rest e), take-append-drop at room)

-- into room of their own size
pub sized : (digits : List ℕ) (n : ℕ) → length digits ≡ 2 * n → decode_sized digits n ≡ decode_pairs 0 digits
sized digits n long = decode_sized-pairs digits n (omega arith) (omega arith)

-- what isn't 32 digits is no address of 16 bytes
pub no_sixteen : (field : List ℕ) → (length field == 32) ≡ false → address_of field ≡ dotted_of (slice_split (λ byte. byte == 46) field)
no_sixteen field other =
    elim (cases_eq (length field % 2) 1) [
      | inl odd ↦ rw (decode_sized-odd field 16 odd) refl
      | inr even ↦ rw (decode_sized-other field 16 (omega arith) (λ half. absurd (grind (arith, nat_tests)))) refl
    ]

-- digits behind digits
encode_both : (xs ys : List ℕ) → encode_lower (xs ++ ys) ≡ encode_lower xs ++ encode_lower ys
unfolding encode_with
encode_both [] ys = refl
encode_both (x ∷ xs) ys = cc (encode_both xs ys)

pub encode_back : (rest before run : List ℕ) (n : ℕ) (old new whole : List ℕ) → before ≡ take n rest → run ≡ drop n rest
    → new ≡ encode_lower run ++ old → encode_lower rest ++ old ≡ whole → encode_lower before ++ new ≡ whole
encode_back rest before run n old new whole head tail put was =
    let both : before ++ run ≡ rest = rw (head, tail) (take-append-drop n rest) in
    cc (append_assoc (encode_lower before) (encode_lower run) old, encode_both before run)

pub some_hex : (bytes : List ℕ) → (length bytes ≡ 0 → ⊥) → encode_lower bytes ≡ hex_field bytes
some_hex [] some = absurd (some refl)
some_hex (b ∷ bytes) some = refl
