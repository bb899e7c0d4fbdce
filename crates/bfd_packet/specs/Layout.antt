-- The control packet by the position of each field (RFC 5880 section 4.1).
use Rattle.std.specs.Prelude.{◌<◌, ◌+◌, ◌*◌, ◌/◌, ◌%◌, ◌^◌, ◌==◌, ◌++◌, if◌then◌else◌, ℕ, Bool, not, List, [], ◌∷◌, length, drop}
use Rattle.std.specs.Prelude.{slice_index}
use Rattle.byteorder.specs.Endian.{big_number, big_bytes}
use Rattle.bfd_packet.specs.declared.control.Control.{Control}
use Rattle.bfd_packet.specs.declared.control.State.{State}
use Rattle.bfd_packet.specs.declared.control.State.TheVariants.{AdminDown, Down, Init, Up}

-- the bit at this place of a byte is set, the lowest place being 0
abbrev pub has_bit_of : ℕ → ℕ → Bool
has_bit_of byte place = byte / 2 ^ place % 2 == 1

-- the flag of the second byte that stands at this bit: P 5, F 4, C 3, A 2, D 1, M 0
abbrev pub flag_of : ℕ → List ℕ → Bool
flag_of place packet = has_bit_of (slice_index packet 1) place

-- the state that a number of two bits names
abbrev pub state_of : ℕ → State
state_of number =
    if number == 0 then AdminDown
    else if number == 1 then Down
    else if number == 2 then Init
    else Up

-- the 32-bit number that begins at this byte
abbrev pub word_at : ℕ → List ℕ → ℕ
word_at place packet = big_number 4 (drop place packet)

-- each field of a packet, by its position
abbrev pub fields_of : List ℕ → Control
fields_of packet = record {
  diag = slice_index packet 0 % 32;
  state = state_of (slice_index packet 1 / 64);
  poll = flag_of 5 packet;
  fin = flag_of 4 packet;
  cpi = flag_of 3 packet;
  auth = flag_of 2 packet;
  demand = flag_of 1 packet;
  multi = flag_of 0 packet;
  mult = slice_index packet 2;
  length = slice_index packet 3;
  my = word_at 4 packet;
  your = word_at 8 packet;
  min_tx = word_at 12 packet;
  min_rx = word_at 16 packet;
  min_echo = word_at 20 packet;
}

-- the number of a state, in two bits
abbrev pub state_number : State → ℕ
state_number AdminDown = 0
state_number Down = 1
state_number Init = 2
state_number Up = 3

-- a flag as the bit at this place
abbrev pub bit_of : Bool → ℕ → ℕ
bit_of set place = if set then 2 ^ place else 0

-- a section follows the mandatory one
abbrev pub has_section : List ℕ → Bool
has_section section = not (length section == 0)

-- the second byte: Sta in the two high bits, then P, F, C, A, D and M
abbrev pub flag_byte : Control → List ℕ → ℕ
flag_byte c section =
    state_number c.state * 64 + (bit_of c.poll 5 + (bit_of c.fin 4 + (bit_of c.cpi 3
    + (bit_of (has_section section) 2 + (bit_of c.demand 1 + bit_of c.multi 0)))))

-- the mandatory section of the packet: Version 1 and Diag, the flags, Detect Mult, Length, five words
abbrev pub header_of : Control → List ℕ → List ℕ
header_of c section =
    (32 + c.diag) ∷ flag_byte c section ∷ c.mult ∷ (24 + length section) ∷ []
    ++ (big_bytes 4 c.my ++ (big_bytes 4 c.your
    ++ (big_bytes 4 c.min_tx ++ (big_bytes 4 c.min_rx ++ big_bytes 4 c.min_echo))))

-- the packet's bytes: the mandatory section, then the authentication section
unfoldable pub text_of : Control → List ℕ → List ℕ
text_of c section = header_of c section ++ section

-- the fields as they are sent: A says whether a section follows, and Length counts it
abbrev pub as_sent : Control → List ℕ → Control
as_sent c section = record c { auth = has_section section; length = 24 + length section }

-- each of the five words is below 2 ^ 32, as a field of 32 bits is
pub record HasWords (c : Control) : Type 0 where
  pub my : c.my < 2 ^ 32
  pub your : c.your < 2 ^ 32
  pub min_tx : c.min_tx < 2 ^ 32
  pub min_rx : c.min_rx < 2 ^ 32
  pub min_echo : c.min_echo < 2 ^ 32
