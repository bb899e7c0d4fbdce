-- The bytes of a packet.
use Rattle.std.proofs.Common.{◌≡◌, ◌<◌, ◌+◌, ◌*◌, ◌/◌, ◌^◌, ◌==◌, ◌++◌, ℕ, zero, suc, Bool, true, false, not, List, [], ◌∷◌, length, take}
use Rattle.std.proofs.Common.{arith, refl}
use Rattle.std.proofs.Math.Nat.{mod-lt}
use Rattle.std.proofs.Math.Seq.{take_all}
use Rattle.std.specs.Int.{byte_at, bytes_high_first}
use Rattle.hex.specs.Hex.{IsBytes}
use Rattle.std.specs.Prelude.{if◌then◌else◌}
use Rattle.bfd_packet.specs.declared.control.Control.{Control}
use Rattle.bfd_packet.specs.declared.control.State.TheVariants.{Init, Up}
use Rattle.bfd_packet.specs.Layout.{bit_of, flag_byte, has_section, state_number, text_of}
use Rattle.bfd_load.specs.Load.{control}

byte_below : (k x : ℕ) → byte_at k x < 256
byte_below zero x = mod-lt x (omega arith)
byte_below (suc k) x = mod-lt (x / 256 ^ suc k) (omega arith)

-- n bytes of a number, and bytes behind them
bytes_then : (n x : ℕ) (bytes : List ℕ) → IsBytes bytes → IsBytes (bytes_high_first n x ++ bytes)
bytes_then zero x bytes h i = h i
bytes_then (suc n) x bytes h zero = byte_below n x
bytes_then (suc n) x bytes h (suc i) = bytes_then n x bytes h i

byte_then : (b : ℕ) (bytes : List ℕ) → b < 256 → IsBytes bytes → IsBytes (b ∷ bytes)
byte_then b bytes below h zero = below
byte_then b bytes below h (suc i) = h i

none : IsBytes []
none i = omega arith

flags_below : (first : Bool) → state_number (if first then Init else Up) * 64
    + (bit_of false 5 + (bit_of (not first) 4 + (bit_of false 3 + (bit_of (has_section []) 2 + (bit_of false 1 + bit_of false 0))))) < 256
flags_below true = omega arith
flags_below false = omega arith

pub are_bytes : (i p : ℕ) → IsBytes (text_of (control i p) [])
unfolding text_of
are_bytes i p =
    let c : Control = control i p in
    let echo : List ℕ = bytes_high_first 4 c.min_echo ++ [] in
    let rx : List ℕ = bytes_high_first 4 c.min_rx ++ echo in
    let tx : List ℕ = bytes_high_first 4 c.min_tx ++ rx in
    let your : List ℕ = bytes_high_first 4 c.your ++ tx in
    let my : List ℕ = bytes_high_first 4 c.my ++ your in
    let words : IsBytes my =
    bytes_then 4 c.my your (bytes_then 4 c.your tx (bytes_then 4 c.min_tx rx
    (bytes_then 4 c.min_rx echo (bytes_then 4 c.min_echo [] none)))) in
    byte_then 32 (flag_byte c [] ∷ 3 ∷ 24 ∷ my) (omega arith) (byte_then _ (3 ∷ 24 ∷ my) (flags_below (p == 0))
    (byte_then 3 (24 ∷ my) (omega arith) (byte_then 24 my (omega arith) words)))

pub long : (i p : ℕ) → length (text_of (control i p) []) ≡ 24
unfolding text_of
long i p = refl

pub kept_whole : (i p : ℕ) → take 256 (text_of (control i p) []) ≡ text_of (control i p) []
kept_whole i p = take_all 256 (text_of (control i p) []) (omega (arith, long i p))
