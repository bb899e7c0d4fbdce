-- Hexadecimal digits at a place of a text.
use Rattle.bfd_script.proofs.FieldsCommon.{◌≡◌, ℕ, ◌+◌, ◌*◌, ◌^◌, ◌<◌, ◌≤◌, ◌&&◌, cond, Bool, true, false, List, [], ◌∷◌, ◌++◌, length, take}
use Rattle.bfd_script.proofs.FieldsCommon.{drop, Option, Some, None, Result, Ok, Err, refl, ap, sym, ◌∙◌, arith, nat_tests, slice_index}
use Rattle.bfd_script.proofs.FieldsCommon.{append_assoc, take-append-drop, drop-drop, length-drop, length-take-le, decode_pairs}
use Rattle.bfd_script.proofs.FieldsCommon.{IsBytes, hex_digit_value, address_of, payload_of}
use Rattle.bfd_script.proofs.Common.{length-append}
use Rattle.std.proofs.lemmas.List.{length-take, take_all}
use Rattle.std.specs.Prelude.{nat_le}
use Rattle.bfd_packet.specs.declared.arrival.Addr.TheVariants.{V6}
use Rattle.byteorder.specs.Endian.{big_number}
use Rattle.hex.specs.declared.error.FromHexError.{FromHexError}
use Rattle.hex.proofs.HexLemmas.{decode_pairs-ok}
use Rattle.bfd_script.specs.Windows.{HasBytes, IsField, IsVisible, Reads}
use Rattle.bfd_script.proofs.Decoding.{payload_by_room}
use Rattle.bfd_script.proofs.Nibbles.{appended, joined, sized}
use Rattle.bfd_script.proofs.Windowed.{byte_at}

-- ---- digits one after another

-- the digits of a run
pub run_has : (text : List ℕ) (at : ℕ) {bytes : List ℕ} → at + 16 ≤ length text
    → ((i : ℕ) → decode_pairs i (take 16 (drop at text)) ≡ Ok bytes) → HasBytes text at (at + 16) bytes
run_has text at within e = record {
  digits = take 16 (drop at text);
  pairs = e;
  here = sym (take-append-drop 16 (drop at text)) ∙ ap (λ rest. take 16 (drop at text) ++ rest) (drop-drop 16 at text);
  long = omega (arith, length-take-le 16 (drop at text) (omega (arith, length-drop at text)));
}

-- two digits
pub pair_has : (text : List ℕ) (at : ℕ) {a b h l : ℕ} → at + 2 ≤ length text → slice_index text at ≡ a → slice_index text (at + 1) ≡ b
    → hex_digit_value a ≡ Some h → hex_digit_value b ≡ Some l → HasBytes text at (at + 2) ((h * 16 + l) ∷ [])
unfolding decode_pairs
pair_has text at {a} {b} within ea eb eh el = record {
  digits = a ∷ b ∷ [];
  pairs = λ i. rw (eh, el) refl;
  here = byte_at text at (at + 1) refl (omega (arith, within)) ea
      ∙ ap (λ rest. a ∷ rest) (byte_at text (at + 1) (at + 2) (omega arith) (omega (arith, within)) eb);
  long = omega arith;
}

-- none
pub none_has : (text : List ℕ) (at to : ℕ) → at ≡ to → HasBytes text at to []
unfolding decode_pairs
none_has text at to e = record { digits = []; pairs = λ i. refl; here = ap (λ k. drop k text) e; long = omega (arith, e) }

-- digits behind digits
pub more_has : {text : List ℕ} {from at to : ℕ} {front more : List ℕ} → HasBytes text from at front → HasBytes text at to more
    → HasBytes text from to (front ++ more)
more_has {text} {to = to} {front} {more} h m = record {
  digits = h.digits ++ m.digits;
  pairs = λ i. appended i i h.digits m.digits more (h.pairs i) m.pairs;
  here = h.here ∙ ap (λ rest. h.digits ++ rest) m.here ∙ sym (append_assoc h.digits m.digits (drop to text));
  long = omega (arith, h.long, m.long, length-append h.digits m.digits);
}

-- the same, where the bytes are kept and counted
pub next_has : {text : List ℕ} {from at to next : ℕ} {front more kept : List ℕ} → HasBytes text from at front → HasBytes text at to more
    → kept ≡ front ++ more → next ≡ to → HasBytes text from next kept
next_has h m e same = rw (e, same) (more_has h m)

-- ---- digits are visible

digit_by : {digit v : ℕ} (x y z : Option ℕ) (upper lower figure : Bool) → (nat_le 65 digit && nat_le digit 70) ≡ upper
    → (nat_le 97 digit && nat_le digit 102) ≡ lower → (nat_le 48 digit && nat_le digit 57) ≡ figure
    → cond upper x (cond lower y (cond figure z None)) ≡ Some v → IsVisible digit
digit_by x y z true lower figure a b c e = grind (arith, nat_tests)
digit_by x y z false true figure a b c e = grind (arith, nat_tests)
digit_by x y z false false true a b c e = grind (arith, nat_tests)
digit_by x y z false false false a b c e = cc e

digit_seen : {digit v : ℕ} → hex_digit_value digit ≡ Some v → IsVisible digit
digit_seen {digit} e = digit_by _ _ _ (nat_le 65 digit && nat_le digit 70) (nat_le 97 digit && nat_le digit 102)
    (nat_le 48 digit && nat_le digit 57) refl refl refl e

pair_seen : (i h l : ℕ) (rest : List ℕ) (o p : Option ℕ) (r : Result (List ℕ) FromHexError) {bytes : List ℕ}
    → ((more : List ℕ) → r ≡ Ok more → IsField rest) → hex_digit_value h ≡ o → hex_digit_value l ≡ p → joined i h l o p r ≡ Ok bytes
    → IsField (h ∷ l ∷ rest)
pair_seen i h l rest (Some a) (Some b) (Ok x) f eh el e = (digit_seen eh, (digit_seen el, f x refl))
pair_seen i h l rest (Some a) (Some b) (Err x) f eh el e = cc e
pair_seen i h l rest (Some a) None r f eh el e = cc e
pair_seen i h l rest None p r f eh el e = cc e

digits_seen : (i : ℕ) (digits : List ℕ) {bytes : List ℕ} → decode_pairs i digits ≡ Ok bytes → IsField digits
unfolding decode_pairs
digits_seen i [] e = tt
digits_seen i (h ∷ []) e = cc e
digits_seen i (h ∷ l ∷ rest) e = pair_seen i h l rest (hex_digit_value h) (hex_digit_value l) (decode_pairs (i + 2) rest)
    (λ more same. digits_seen (i + 2) rest same) refl refl e

-- ---- a field

-- a payload, and the end of its line
pub payload_ends : {text : List ℕ} {from done : ℕ} (room : List ℕ) → HasBytes text from (from + 2 * done) (take done room) → done ≤ 52
    → 0 < done → from + 2 * done < length text → slice_index text (from + 2 * done) ≡ 10
    → Reads payload_of 10 text from (from + 2 * done + 1) (take done room)
payload_ends {text} {from} {done} room h few some within e =
    let long : length h.digits ≡ 2 * done = omega (arith, h.long) in
    let short : length (take done room) ≤ 256 = omega (arith, few, length-take done room) in
    record {
      field = h.digits;
      visible = digits_seen 0 h.digits (h.pairs 0);
      here = h.here ∙ ap (λ rest. h.digits ++ rest) (byte_at text (from + 2 * done) (from + 2 * done + 1) refl within e);
      long = omega (arith, h.long);
      says = payload_by_room h.digits done (omega arith) long
          ∙ rw (sized h.digits done long, h.pairs 0) (ap Ok (take_all 256 (take done room) short));
    }

whole_number : (high low : List ℕ) → length high ≡ 8 → length low ≡ 8
    → big_number 16 (high ++ low) ≡ big_number 8 high * 2 ^ 64 + big_number 8 low
whole_number (a ∷ b ∷ c ∷ d ∷ e ∷ f ∷ g ∷ h ∷ []) low long same = omega arith
whole_number high low long same = absurd (omega (arith, long))

-- an address of two runs, and the space behind it
pub long_ends : {text : List ℕ} {at : ℕ} {high low : List ℕ} → HasBytes text at (at + 16) high → HasBytes text (at + 16) (at + 32) low
    → length high ≡ 8 → length low ≡ 8 → at + 32 < length text → slice_index text (at + 32) ≡ 32
    → Reads address_of 32 text at (at + 33) (V6 (big_number 8 high * 2 ^ 64 + big_number 8 low))
long_ends {text} {at} {high} {low} h l eh el within e =
    let all = more_has h l in
    let long : length all.digits ≡ 32 = omega (arith, all.long) in
    record {
      field = all.digits;
      visible = digits_seen 0 all.digits (all.pairs 0);
      here = all.here ∙ ap (λ rest. all.digits ++ rest) (byte_at text (at + 32) (at + 33) (omega arith) within e);
      long = omega (arith, all.long);
      says = rw (sized all.digits 16 (omega (arith, long)), all.pairs 0) (ap (λ n. Ok (V6 n)) (whole_number high low eh el));
    }

-- what digits write is bytes
pub bytes_has : {text : List ℕ} {at to : ℕ} {bytes : List ℕ} → HasBytes text at to bytes → IsBytes bytes
bytes_has {bytes} h = (decode_pairs-ok 0 h.digits bytes (h.pairs 0)).2
