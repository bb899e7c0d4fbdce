-- The reflector (RFC 7880 sections 5 and 7.2, RFC 7881 section 6): its answer as a function of one arrival and the pool.
use Rattle.std.specs.Prelude.{◌<◌, ◌==◌, ◌++◌, ℕ, Bool, not, false, if◌then◌else◌, Option, None, Some, is_none, Result, Ok, Err, List, []}
use Rattle.std.specs.Prelude.{◌∷◌, find}
use Rattle.std.specs.List.{AllByRecursion}
use Rattle.bfd_packet.specs.declared.control.State.{State}
use Rattle.bfd_packet.specs.declared.control.State.TheVariants.{AdminDown, Up}
use Rattle.bfd_packet.specs.declared.control.Control.{Control}
use Rattle.bfd_packet.specs.declared.arrival.Arrival.{Arrival}
use Rattle.bfd_packet.specs.declared.arrival.Datagram.{Datagram}
use Rattle.bfd_packet.specs.declared.arrival.Port.TheVariants.{Sbfd}
use Rattle.bfd_packet.specs.declared.discard.Test.{Test}
use Rattle.bfd_packet.specs.declared.discard.Test.TheVariants.{YourUnknown, AuthUnexpected, NotDemand}
use Rattle.bfd_packet.specs.Layout.{fields_of, text_of}
use Rattle.bfd_packet.specs.HeaderTests.{header_fails, header_tests}
use Rattle.bfd_sbfd.specs.declared.reflecting.Reflector.{Reflector}

-- the discriminators ascend, so none comes twice (RFC 7880 section 4)
abbrev pub Ascends : List Reflector → Type 0
Ascends [] = Unit {0}
Ascends (reflector ∷ reflectors) = AllByRecursion (λ later. reflector.discr < later.discr) reflectors × Ascends reflectors

-- the reflector that Your Discriminator names; 0 names none (RFC 7880 section 7.2.1)
abbrev pub named_in : List Reflector → ℕ → Option Reflector
named_in pool discr = if discr == 0 then None else find (λ reflector. reflector.discr == discr) pool

-- the sentence of each test, true of a packet that fails it
abbrev pub fails : List Reflector → List ℕ → Test → Bool
fails pool payload YourUnknown = is_none (named_in pool (fields_of payload).your)
fails pool payload AuthUnexpected = (fields_of payload).auth
fails pool payload NotDemand = not (fields_of payload).demand
fails pool payload test = header_fails test payload

-- the tests of the reflectors' port, in their order: those on the header, then these
abbrev pub tests : List Test
tests = header_tests Sbfd ++ YourUnknown ∷ AuthUnexpected ∷ NotDemand ∷ []

-- a reflector is Up unless it was set to AdminDown (RFC 7880 section 7.2.3)
abbrev pub reflector_state : Reflector → State
reflector_state reflector = if reflector.up then Up else AdminDown

-- the fields of its answer: the received discriminators swapped, Detect Mult and Desired Min TX as they came, F if P was
-- set, and the reflector's own Required Min RX (RFC 7880 section 7.2.2)
abbrev pub reflected_fields : Reflector → Control → Control
reflected_fields reflector packet = record {
  diag = 0;
  state = reflector_state reflector;
  poll = false;
  fin = packet.poll;
  cpi = false;
  auth = false;
  demand = false;
  multi = false;
  mult = packet.mult;
  length = 0;
  my = packet.your;
  your = packet.my;
  min_tx = packet.min_tx;
  min_rx = reflector.rx;
  min_echo = 0;
}

-- the answer goes back the way that the packet came, from the reflectors' port, with TTL 255 (RFC 7881 section 6.1)
abbrev pub datagram_back : Arrival → List ℕ → Datagram
datagram_back arrival bytes = record {
  iface = arrival.iface;
  src = arrival.dst;
  sport = 7784;
  dst = arrival.src;
  dport = arrival.sport;
  ttl = 255;
  bytes = bytes;
}

abbrev pub answered : Reflector → Arrival → Datagram
answered reflector arrival = datagram_back arrival (text_of (reflected_fields reflector (fields_of arrival.payload)) [])

-- the first test that fails, or the answer of the reflector that is named; when no test fails, one is named
abbrev pub answer_unless : Option Test → Option Reflector → Arrival → Result Datagram Test
answer_unless (Some test) reflector arrival = Err test
answer_unless None None arrival = Err YourUnknown
answer_unless None (Some reflector) arrival = Ok (answered reflector arrival)

abbrev pub reflect : List Reflector → Arrival → Result Datagram Test
reflect pool arrival =
    answer_unless (find (fails pool arrival.payload) tests) (named_in pool (fields_of arrival.payload).your) arrival
