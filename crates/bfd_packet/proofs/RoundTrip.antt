-- What is written reads back.
use Rattle.std.proofs.Common.{◌≡◌, ◌≢◌, ◌<◌, ◌≤◌, ◌+◌, ◌*◌, ◌/◌, ◌%◌, ◌^◌, ◌++◌, if◌then◌else◌, List, [], ◌∷◌, ℕ, Bool, true, false, not}
use Rattle.std.proofs.Common.{length, refl, sym, ap, subst, arith, nat_eq, nat_lt, None, Ok}
use Rattle.std.proofs.lemmas.Bool.Decides.{nat_tests}
use Rattle.std.specs.Prelude.{find}
use Rattle.byteorder.specs.Endian.{big_bytes}
use Rattle.byteorder.specs.Numbers.{big_number-reads_back}
use Rattle.bfd_packet.specs.declared.control.Control.{Control}
use Rattle.bfd_packet.specs.declared.control.State.{State}
use Rattle.bfd_packet.specs.declared.control.State.TheVariants.{AdminDown, Down, Init, Up}
use Rattle.bfd_packet.specs.declared.arrival.Port.{Port}
use Rattle.bfd_packet.specs.declared.discard.Test.TheVariants.{Short, Version, LengthMin, LengthOver, DetectMult, Multipoint, MyDiscr}
use Rattle.bfd_packet.specs.Layout.{HasWords, as_sent, bit_of, flag_byte, flag_of, fields_of, has_section, state_number, state_of, text_of}
use Rattle.bfd_packet.specs.Layout.{word_at}
use Rattle.bfd_packet.specs.HeaderTests.{PassesHeader, header_fails, read_of}

-- a flag as a digit
abbrev digit : Bool → ℕ
digit true = 1
digit false = 0

digit-le : (b : Bool) → digit b ≤ 1
digit-le true = omega arith
digit-le false = omega arith

bit_of-digit : (b : Bool) (place : ℕ) → bit_of b place ≡ digit b * 2 ^ place
bit_of-digit true place = omega arith
bit_of-digit false place = omega arith

is_one-digit : (b : Bool) → nat_eq (digit b) 1 ≡ b
is_one-digit true = refl
is_one-digit false = refl

state_of-state_number : (state : State) → state_of (state_number state) ≡ state
state_of-state_number AdminDown = refl
state_of-state_number Down = refl
state_of-state_number Init = refl
state_of-state_number Up = refl

-- a byte that has these digits
record Digits (n s p f c a d m : ℕ) : Type 0 where
  state : n / 64 ≡ s
  poll : n / 32 % 2 ≡ p
  fin : n / 16 % 2 ≡ f
  cpi : n / 8 % 2 ≡ c
  auth : n / 4 % 2 ≡ a
  demand : n / 2 % 2 ≡ d
  multi : n / 1 % 2 ≡ m

digits-sum : {n : ℕ} (s : ℕ) {p f c a d m : ℕ} → p ≤ 1 → f ≤ 1 → c ≤ 1 → a ≤ 1 → d ≤ 1 → m ≤ 1
    → n ≡ s * 64 + (p * 32 + (f * 16 + (c * 8 + (a * 4 + (d * 2 + m))))) → Digits n s p f c a d m
digits-sum s hp hf hc ha hd hm e = record {
  state = omega arith;
  poll = omega arith;
  fin = omega arith;
  cpi = omega arith;
  auth = omega arith;
  demand = omega arith;
  multi = omega arith;
}

-- the flags' byte has the flags as its digits
digits-flag_byte : (c : Control) (section : List ℕ) → Digits (flag_byte c section) (state_number c.state) (digit c.poll) (digit c.fin)
    (digit c.cpi) (digit (has_section section)) (digit c.demand) (digit c.multi)
digits-flag_byte c section = digits-sum _
    (digit-le c.poll) (digit-le c.fin) (digit-le c.cpi) (digit-le (has_section section)) (digit-le c.demand) (digit-le c.multi) (
    omega (
      arith,
      bit_of-digit c.poll 5,
      bit_of-digit c.fin 4,
      bit_of-digit c.cpi 3,
      bit_of-digit (has_section section) 2,
      bit_of-digit c.demand 1,
      bit_of-digit c.multi 0,
    ))

-- a flag of what is written
flag-of : (n place : ℕ) (b : Bool) → n / 2 ^ place % 2 ≡ digit b → nat_eq (n / 2 ^ place % 2) 1 ≡ b
flag-of n place b e = rw e (is_one-digit b)

-- the state of what is written
state-of : (n : ℕ) (state : State) → n / 64 ≡ state_number state → state_of (n / 64) ≡ state
state-of n state e = rw e (state_of-state_number state)

-- the state that is written is the state that is read
pub reads_state : (c : Control) (section : List ℕ) → (fields_of (text_of c section)).state ≡ c.state
unfolding text_of
reads_state c section = state-of (flag_byte c section) c.state (digits-flag_byte c section).state

-- the fields of what is written
fields_of-text_of : (c : Control) (section : List ℕ) → c.diag < 32 → HasWords c → fields_of (text_of c section) ≡ as_sent c section
unfolding text_of
fields_of-text_of c section diag words =
    let b = digits-flag_byte c section in
    let n : ℕ = flag_byte c section in
    let first : (32 + c.diag) % 32 ≡ c.diag = omega arith in
    let my = big_number-reads_back 4 c.my (big_bytes 4 c.your
    ++ (big_bytes 4 c.min_tx ++ (big_bytes 4 c.min_rx ++ (big_bytes 4 c.min_echo ++ section)))) words.my in
    let your = big_number-reads_back 4 c.your (big_bytes 4 c.min_tx ++ (big_bytes 4 c.min_rx ++ (big_bytes 4 c.min_echo ++ section)))
    words.your in
    rw (
      first,
      state-of n c.state b.state,
      flag-of n 5 c.poll b.poll,
      flag-of n 4 c.fin b.fin,
      flag-of n 3 c.cpi b.cpi,
      flag-of n 2 (has_section section) b.auth,
      flag-of n 1 c.demand b.demand,
      flag-of n 0 c.multi b.multi,
      my,
      your,
      big_number-reads_back 4 c.min_tx (big_bytes 4 c.min_rx ++ (big_bytes 4 c.min_echo ++ section)) words.min_tx,
      big_number-reads_back 4 c.min_rx (big_bytes 4 c.min_echo ++ section) words.min_rx,
      big_number-reads_back 4 c.min_echo section words.min_echo,
    ) refl

-- Length is at least 24, and 26 where a section follows
length_min-false : (size : ℕ) → size ≢ 1 → nat_lt (24 + size) (if not (nat_eq size 0) then 26 else 24) ≡ false
length_min-false size apart = grind (arith, nat_tests)

-- what is written passes the header tests that its fields pass
passes : (takes : Bool) (c : Control) (section : List ℕ) → c.diag < 32 → HasWords c → length section ≢ 1
    → c.mult ≢ 0 → (takes ≡ false → c.multi ≡ false) → c.my ≢ 0
    → find (λ test. header_fails test (text_of c section))
    (Short ∷ Version ∷ LengthMin ∷ LengthOver ∷ DetectMult ∷ (if takes then MyDiscr ∷ [] else Multipoint ∷ MyDiscr ∷ [])) ≡ None
unfolding text_of
passes takes c section diag words apart mult multi my =
    let same = fields_of-text_of c section diag words in
    let short : nat_lt (length (text_of c section)) 4 ≡ false = grind (arith, nat_tests) in
    let version : nat_eq ((32 + c.diag) / 32) 1 ≡ true = grind (arith, nat_tests) in
    let a = ap (λ d. d.auth) same in
    let over : nat_lt (length (text_of c section)) (24 + length section) ≡ false = grind (arith, nat_tests) in
    let zero_mult : nat_eq c.mult 0 ≡ false = grind (arith, nat_tests) in
    let m = ap (λ d. d.multi) same in
    let word = ap (λ d. d.my) same in
    let zero_my : nat_eq c.my 0 ≡ false = grind (arith, nat_tests) in
    rw (short, version, a, length_min-false _ apart, over, zero_mult) (last takes multi m word zero_my)
  where
    last : (takes : Bool) → (takes ≡ false → c.multi ≡ false) → flag_of 0 (text_of c section) ≡ c.multi
        → word_at 4 (text_of c section) ≡ c.my → nat_eq c.my 0 ≡ false
        → find (λ test. header_fails test (text_of c section)) (if takes then MyDiscr ∷ [] else Multipoint ∷ MyDiscr ∷ []) ≡ None
    last true multi m word zero_my = rw (word, zero_my) refl
    last false multi m word zero_my = rw (m, multi refl, word, zero_my) refl

-- what is written reads back on every port whose tests its fields pass
read_of-text_of : {c : Control} (section : List ℕ) → c.diag < 32 → HasWords c → {port : Port}
    → PassesHeader port c → length section ≢ 1 → read_of port (text_of c section) ≡ Ok (as_sent c section)
read_of-text_of {c} section diag words {port} fields apart =
    rw (passes _ c section diag words apart fields.mult fields.multi fields.my) (ap Ok (fields_of-text_of c section diag words))

-- the same of equal bytes
pub read_of-written : {c : Control} (section : List ℕ) {bytes : List ℕ} → bytes ≡ text_of c section → c.diag < 32 → HasWords c
    → (port : Port)
    → PassesHeader port c → length section ≢ 1 → read_of port bytes ≡ Ok (as_sent c section)
read_of-written {c} section same diag words port fields apart =
    let P : List ℕ → Type 0 = λ packet. read_of port packet ≡ Ok (as_sent c section) in
    subst P (sym same) (read_of-text_of section diag words fields apart)
