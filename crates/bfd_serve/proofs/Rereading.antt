-- Addresses and bytes, written and read again.
use Rattle.bfd_serve.proofs.SpellingCommon.{◌≡◌, ℕ, ◌+◌, ◌*◌, ◌/◌, ◌%◌, ◌<◌, ◌≤◌, ◌^◌, ◌==◌, Bool, true, false, cond, List, [], ◌∷◌, ◌++◌}
use Rattle.bfd_serve.proofs.SpellingCommon.{length, Ok, Err, refl, ap, arith, suc, zero, append-nil, length-append, nat_tests, slice_index}
use Rattle.bfd_serve.proofs.SpellingCommon.{codes, decimal, list_all, slice_split, and_parts, hex_field, address_field, dotted_field}
use Rattle.bfd_serve.proofs.SpellingCommon.{each_more}
use Rattle.std.proofs.Math.Nat.{mod-lt}
use Rattle.std.proofs.Math.Seq.{take_all}
use Rattle.std.specs.Int.{byte_at, bytes_high_first}
use Rattle.std.specs.Str.{bytes_eq}
use Rattle.std.proofs.Math.Bool.{and-false}
use Rattle.byteorder.specs.Endian.{big_bytes}
use Rattle.byteorder.specs.Numbers.{big_number-reads_back, length-bytes_high_first}
use Rattle.hex.specs.Hex.{IsBytes, decode_pairs, encode_with, lower_digits}
use Rattle.hex.specs.declared.error.FromHexError.TheVariants.{OddLength, InvalidStringLength}
use Rattle.hex.proofs.HexLemmas.{decode_of-encode_lower, decode_sized-encode_lower, length-encode_with}
use Rattle.bfd_packet.specs.declared.arrival.Addr.{Addr}
use Rattle.bfd_packet.specs.declared.arrival.Addr.TheVariants.{V4, V6}
use Rattle.bfd_script.specs.Values.{IsAddress, address_by, address_of, bytes_of, dotted_of, octet_of, part_of, payload_of, quad_of}
use Rattle.bfd_serve.proofs.Numerals.{number_again, number_dotless, number_field, octet_short}
use Rattle.bfd_script.proofs.Visible.{is_visible, seen}
use Rattle.bfd_script.specs.Windows.{IsField, IsVisible}
use Rattle.bfd_script.proofs.Splitting.{split_front, split_last}

-- ---- four numbers with dots

octet_again : {n : ℕ} → n < 256 → octet_of (decimal n) ≡ Ok n
octet_again {n} h = ap part_of (number_again 0 255 n (omega arith) (omega arith) (omega arith))

quad_again : {a b c d : ℕ} → a < 256 → b < 256 → c < 256 → d < 256
    → quad_of (decimal a) (decimal b) (decimal c) (decimal d) ≡ Ok (V4 (((a * 256 + b) * 256 + c) * 256 + d))
unfolding quad_of
quad_again ha hb hc hd = rw (octet_again ha, octet_again hb, octet_again hc, octet_again hd) refl

parts_again : {a b c d : ℕ} → a < 256 → b < 256 → c < 256 → d < 256
    → slice_split (λ x. x == 46) (dotted_field a b c d) ≡ decimal a ∷ decimal b ∷ decimal c ∷ decimal d ∷ []
parts_again {a} {b} {c} {d} ha hb hc hd =
    cc (
      split_front 46 (decimal a) (decimal b ++ (46 ∷ (decimal c ++ (46 ∷ decimal d)))) (number_dotless a (omega arith)) refl,
      split_front 46 (decimal b) (decimal c ++ (46 ∷ decimal d)) (number_dotless b (omega arith)) refl,
      split_front 46 (decimal c) (decimal d) (number_dotless c (omega arith)) refl,
      split_last 46 (decimal d) (number_dotless d (omega arith)),
    )

dot_visible : IsVisible 46
dot_visible = record { above = omega arith; below = omega arith }

dotted_is_field : (a b c d : ℕ) → a < 256 → b < 256 → c < 256 → d < 256 → IsField (dotted_field a b c d)
dotted_is_field a b c d ha hb hc hd =
    each_more IsVisible (decimal a) (46 ∷ (decimal b ++ (46 ∷ (decimal c ++ (46 ∷ decimal d))))) (number_field a (omega arith)) (
      dot_visible,
      each_more IsVisible (decimal b) (46 ∷ (decimal c ++ (46 ∷ decimal d))) (number_field b (omega arith)) (
        dot_visible,
        each_more IsVisible (decimal c) (46 ∷ decimal d) (number_field c (omega arith)) (dot_visible, number_field d (omega arith)),
      ),
    )

dotted_short : (a b c d : ℕ) → a < 256 → b < 256 → c < 256 → d < 256 → length (dotted_field a b c d) ≤ 15
dotted_short a b c d ha hb hc hd =
    let la = octet_short ha in
    let lb = octet_short hb in
    let lc = octet_short hc in
    let ld = octet_short hd in
    let e1 = length-append (decimal a) (46 ∷ (decimal b ++ (46 ∷ (decimal c ++ (46 ∷ decimal d))))) in
    let e2 = length-append (decimal b) (46 ∷ (decimal c ++ (46 ∷ decimal d))) in
    let e3 = length-append (decimal c) (46 ∷ decimal d) in
    omega arith

-- a field of fewer than 32 bytes is no hexadecimal address
by_length : (odd : Bool) (field : List ℕ)
    → address_by (cond odd (Err OddLength) (cond false (decode_pairs 0 field) (Err InvalidStringLength))) field
    ≡ dotted_of (slice_split (λ x. x == 46) field)
by_length true field = refl
by_length false field = refl

not_hex : (field : List ℕ) → length field ≤ 15 → address_of field ≡ dotted_of (slice_split (λ x. x == 46) field)
not_hex field few =
    let short : (length field / 2 == 16) ≡ false = grind (arith, nat_tests) in
    cc (by_length (length field % 2 == 1) field)

-- ---- hexadecimal digits

byte_at_below : (k x : ℕ) → byte_at k x < 256
byte_at_below zero x = mod-lt x (omega arith)
byte_at_below (suc k) x = mod-lt (x / 256 ^ suc k) (omega arith)

high_bytes : (n x : ℕ) → IsBytes (bytes_high_first n x)
high_bytes zero x i = omega arith
high_bytes (suc n) x zero = byte_at_below n x
high_bytes (suc n) x (suc i) = high_bytes n x i

digit_seen : (digits : List ℕ) → list_all is_visible digits ≡ true → (i : ℕ) → i < length digits → IsVisible (slice_index digits i)
digit_seen [] h i lt = absurd (omega arith)
digit_seen (d ∷ digits) h zero lt = seen d (and_parts (is_visible d) (list_all is_visible digits) h).0
digit_seen (d ∷ digits) h (suc i) lt = digit_seen digits (and_parts (is_visible d) (list_all is_visible digits) h).1 i (omega arith)

encoded_field : (bytes : List ℕ) → IsBytes bytes → IsField (encode_with lower_digits bytes)
unfolding encode_with
encoded_field [] h = tt
encoded_field (b ∷ bytes) h =
    let low = h 0 in (
      digit_seen lower_digits refl (b / 16) (omega arith),
      (digit_seen lower_digits refl (b % 16) (omega arith), encoded_field bytes (λ i. h (suc i))),
    )

hex_visible : IsVisible 45
hex_visible = record { above = omega arith; below = omega arith }

pub hex_is_field : (bytes : List ℕ) → IsBytes bytes → IsField (hex_field bytes)
hex_is_field [] h = (hex_visible, tt)
hex_is_field (b ∷ bytes) h = encoded_field (b ∷ bytes) h

pub hex_short : (bytes : List ℕ) → length bytes ≤ 256 → length (hex_field bytes) ≤ 512
hex_short [] h = omega arith
hex_short (b ∷ bytes) h = let e = length-encode_with lower_digits (b ∷ bytes) in omega arith

no_dash : (b : ℕ) (bytes : List ℕ) → bytes_eq (encode_with lower_digits (b ∷ bytes)) (codes "-") ≡ false
unfolding encode_with
no_dash b bytes = and-false _

some_digits : (b : ℕ) (bytes : List ℕ) → (length (encode_with lower_digits (b ∷ bytes)) == 0) ≡ false
some_digits b bytes = let e = length-encode_with lower_digits (b ∷ bytes) in grind (arith, nat_tests)

pub bytes_again : (bytes : List ℕ) → IsBytes bytes → bytes_of (hex_field bytes) ≡ Ok bytes
bytes_again [] h = refl
bytes_again (b ∷ bytes) h = rw (no_dash b bytes, some_digits b bytes, decode_of-encode_lower (b ∷ bytes) h) refl

pub payload_again : (bytes : List ℕ) → IsBytes bytes → length bytes ≤ 256 → payload_of (hex_field bytes) ≡ Ok bytes
payload_again [] h few = refl
payload_again (b ∷ bytes) h few = rw (no_dash b bytes, some_digits b bytes, decode_of-encode_lower (b ∷ bytes) h)
    (ap Ok (take_all 256 (b ∷ bytes) few))

-- ---- addresses

pub address_again : (address : Addr) → IsAddress address → address_of (address_field address) ≡ Ok address
address_again (V4 n) h =
    let ha : n / 256 / 256 / 256 < 256 = omega arith in
    let hb : n / 256 / 256 % 256 < 256 = omega arith in
    let hc : n / 256 % 256 < 256 = omega arith in
    let hd : n % 256 < 256 = omega arith in
    let sum : (((n / 256 / 256 / 256) * 256 + n / 256 / 256 % 256) * 256 + n / 256 % 256) * 256 + n % 256 ≡ n = omega arith in
    cc (
      not_hex (dotted_field (n / 256 / 256 / 256) (n / 256 / 256 % 256) (n / 256 % 256) (n % 256)) (dotted_short _ _ _ _ ha hb hc hd),
      parts_again ha hb hc hd,
      quad_again ha hb hc hd,
    )
address_again (V6 n) h =
    cc (
      decode_sized-encode_lower (big_bytes 16 n) 16 (length-bytes_high_first 16 n) (high_bytes 16 n),
      append-nil (big_bytes 16 n),
      big_number-reads_back 16 n [] (omega arith),
    )

pub address_is_field : (address : Addr) → IsAddress address → IsField (address_field address)
address_is_field (V4 n) h = dotted_is_field (n / 256 / 256 / 256) (n / 256 / 256 % 256) (n / 256 % 256) (n % 256) (omega arith)
    (omega arith) (omega arith) (omega arith)
address_is_field (V6 n) h = encoded_field (big_bytes 16 n) (high_bytes 16 n)

pub address_short : (address : Addr) → IsAddress address → length (address_field address) ≤ 32
address_short (V4 n) h =
    let k = dotted_short (n / 256 / 256 / 256) (n / 256 / 256 % 256) (n / 256 % 256) (n % 256) (omega arith) (omega arith) (omega arith)
    (omega arith) in omega arith
address_short (V6 n) h =
    let e = length-encode_with lower_digits (big_bytes 16 n) in
    let k = length-bytes_high_first 16 n in omega arith
