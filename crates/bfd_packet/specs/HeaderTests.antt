-- The tests that look at a packet's header alone (RFC 5880 section 6.8.6).
use Rattle.std.specs.Prelude.{◌≢◌, ◌≡◌, ◌/◌, ◌==◌, if◌then◌else◌, nat_lt, ℕ, Bool, true, false, not, List, [], ◌∷◌, length, slice_index}
use Rattle.std.specs.Prelude.{find, Option, Some, None, Result, Ok, Err}
use Rattle.bfd_packet.specs.declared.control.Control.{Control}
use Rattle.bfd_packet.specs.declared.arrival.Port.{Port}
use Rattle.bfd_packet.specs.declared.arrival.Port.TheVariants.{Single}
use Rattle.bfd_packet.specs.declared.discard.Test.{Test}
use Rattle.bfd_packet.specs.declared.discard.Test.TheVariants.{Short, Version, LengthMin, LengthOver, DetectMult, Multipoint, MyDiscr}
use Rattle.bfd_packet.specs.Layout.{fields_of, flag_of, word_at}

-- the sentence of each test on the header, true of a payload that fails it
abbrev pub header_fails : Test → List ℕ → Bool
header_fails Short payload = nat_lt (length payload) 4
header_fails Version payload = not (slice_index payload 0 / 32 == 1)
header_fails LengthMin payload = nat_lt (slice_index payload 3) (if flag_of 2 payload then 26 else 24)
header_fails LengthOver payload = nat_lt (length payload) (slice_index payload 3)
header_fails DetectMult payload = slice_index payload 2 == 0
header_fails Multipoint payload = flag_of 0 payload
header_fails MyDiscr payload = word_at 4 payload == 0
header_fails _ payload = false

-- the port receives multipoint packets, which name a tail (RFC 8562)
abbrev pub takes_multipoint_of : Port → Bool
takes_multipoint_of Single = true
takes_multipoint_of _ = false

-- a port's tests on the header, in their order
abbrev pub header_tests : Port → List Test
header_tests port =
    Short ∷ Version ∷ LengthMin ∷ LengthOver ∷ DetectMult
    ∷ (if takes_multipoint_of port then MyDiscr ∷ [] else Multipoint ∷ MyDiscr ∷ [])

-- the first of the port's tests on the header that the payload fails
abbrev pub first_failing : Port → List ℕ → Option Test
first_failing port payload = find (λ test. header_fails test payload) (header_tests port)

-- a value, or the test that refuses it
abbrev pub unless : {T : Type 0} → Option Test → T → Result T Test
unless None value = Ok value
unless (Some test) value = Err test

-- the fields of a packet that the port's header tests pass, or the first test that it fails
abbrev pub read_of : Port → List ℕ → Result Control Test
read_of port payload = unless (first_failing port payload) (fields_of payload)

-- fields that pass the port's tests on Detect Mult, M and My Discriminator
pub record PassesHeader (port : Port) (c : Control) : Type 0 where
  pub mult : c.mult ≢ 0
  pub multi : takes_multipoint_of port ≡ false → c.multi ≡ false
  pub my : c.my ≢ 0
