-- A link over memory: what it keeps, and what it answers.
use Rattle.std.specs.Prelude.{◌≡◌, ℕ, ⊤, true, false, List, [], ◌∷◌, ◌++◌, Option, Some, None, Result, Ok, Err, slice_get}
use Rattle.bfd_packet.specs.declared.arrival.Arrival.{Arrival}
use Rattle.bfd_packet.specs.declared.arrival.Datagram.{Datagram}
use Rattle.bfd_edge.specs.declared.fault.Fault.{Fault}
use Rattle.bfd_edge.specs.declared.fault.Fault.TheVariants as fault
use Rattle.bfd_edge.specs.declared.link.LinkCounts.{LinkCounts}
use Rattle.bfd_edge.specs.declared.link.Received.{Received}
use Rattle.bfd_edge.specs.declared.link.Received.TheVariants as received
use Rattle.bfd_edge.specs.declared.memory_link.Heard.{Heard}
use Rattle.bfd_edge.specs.declared.memory_link.Heard.TheVariants.{Got, Quiet, Failed}
use Rattle.bfd_edge.specs.Faults.{raised}
use Rattle.bfd_edge.specs.Links.{LinkObserved}
use Rattle.bfd_edge.specs.Memory.{is_to_fail}

-- a link over memory
pub record HeldLink : Type 0 where
  -- the number by which it was opened, 0 before
  pub number : ℕ
  -- the packets that it gave, each with its moment
  pub received : List (ℕ × Arrival)
  -- the answers that are left
  pub left : List Heard
  -- what it was sent
  pub sent : List Datagram
  -- the sends so far
  pub sends : ℕ
  -- the numbers of the sends that fail, counted from 0
  pub fails : List ℕ
  pub counts : LinkCounts

-- what is observed of it
abbrev pub observed_of : HeldLink → LinkObserved
observed_of link = record {
  number = link.number;
  traffic = Some (record { received = link.received; sent = link.sent });
  counts = link.counts;
}

-- the packet of an answer of the list
abbrev pub packet_in : Heard → List (ℕ × Arrival)
packet_in (Got moment arrival) = (moment, arrival) ∷ []
packet_in heard = []

-- the packets of a list
abbrev pub packets_in : List Heard → List (ℕ × Arrival)
packets_in [] = []
packets_in (heard ∷ rest) = packet_in heard ++ packets_in rest

-- how many items of the list an answer uses up
abbrev pub items_used : Received → ℕ
items_used (received.Got moment arrival) = 1
items_used received.Quiet = 1
items_used received.Failed = 1
items_used received.Ended = 0
items_used received.Memory = 0

-- the item is a packet
abbrev pub IsPacket : Option Heard → Type 0
IsPacket (Some (Got moment arrival)) = ⊤
IsPacket item = ⊥

-- the next item, if there is one, and the answer: only at a packet it may run out of memory
abbrev pub Hears : Option Heard → Received → Type 0
Hears next (received.Got moment arrival) = next ≡ Some (Got moment arrival)
Hears next received.Quiet = next ≡ Some Quiet
Hears next received.Failed = next ≡ Some Failed
Hears next received.Ended = next ≡ None
Hears next received.Memory = IsPacket next

-- the items that are left before a receive, the answer, and the items that are left afterwards
abbrev pub Answers : List Heard → Received → List Heard → Type 0
Answers left (received.Got moment arrival) rest = left ≡ Got moment arrival ∷ rest
Answers left received.Quiet rest = left ≡ Quiet ∷ rest
Answers left received.Failed rest = left ≡ Failed ∷ rest
Answers left received.Ended rest = (left ≡ []) × (rest ≡ [])
Answers left received.Memory rest = IsPacket (slice_get left 0) × (rest ≡ left)

-- a link before a send, the answer, and the link afterwards
abbrev pub AnswersSend : HeldLink → Result (Unit {0}) Fault → HeldLink → Type 0
AnswersSend old (Ok done) new =
    (is_to_fail old.sends old.fails ≡ false)
    × (new.sends ≡ raised old.sends) × (new.left ≡ old.left) × (new.fails ≡ old.fails)
AnswersSend old (Err fault.Failed) new =
    (is_to_fail old.sends old.fails ≡ true)
    × (new.sends ≡ raised old.sends) × (new.left ≡ old.left) × (new.fails ≡ old.fails)
AnswersSend old (Err fault.Memory) new = (is_to_fail old.sends old.fails ≡ false) × (new ≡ old)
