-- One more answer of a list of them.
use Rattle.std.proofs.Common.{◌≡◌, ℕ, zero, suc, ◌+◌, List, [], ◌∷◌, ◌++◌, take, drop, Some, None, refl, sym, append_assoc, append-nil}
use Rattle.std.proofs.Common.{arith}
use Rattle.std.specs.Prelude.{slice_get}
use Rattle.bfd_packet.specs.declared.arrival.Arrival.{Arrival}
use Rattle.bfd_packet.specs.declared.arrival.Datagram.{Datagram}
use Rattle.bfd_edge.specs.declared.link.LinkCounts.{LinkCounts}
use Rattle.bfd_edge.specs.declared.link.Received.{Received}
use Rattle.bfd_edge.specs.declared.link.Received.TheVariants as received
use Rattle.bfd_edge.specs.declared.memory_link.Heard.{Heard}
use Rattle.bfd_edge.specs.declared.memory_link.Heard.TheVariants.{Got, Quiet, Failed}
use Rattle.bfd_edge.specs.Links.{LinkObserved, after_receive, counts_after_receive, packets_of}
use Rattle.bfd_edge.specs.MemoryLink.{Answers, Hears, IsPacket, items_used, packet_in, packets_in}

-- the item at a place is the first behind it
item_first : (items : List Heard) (at : ℕ) (item : Heard) → slice_get items at ≡ Some item → drop at items ≡ item ∷ drop (suc at) items
item_first [] at item there = absurd (cc there)
item_first (x ∷ xs) zero item there = let same : x ≡ item = cc there in rw same refl
item_first (x ∷ xs) (suc at) item there = item_first xs at item there

packets_more : (items : List Heard) (at : ℕ) (item : Heard) → slice_get items at ≡ Some item
    → packets_in (take (suc at) items) ≡ packets_in (take at items) ++ packet_in item
packets_more [] at item there = absurd (cc there)
packets_more (x ∷ xs) zero item there =
    let same : x ≡ item = cc there in
    rw same (append-nil (packet_in item))
packets_more (x ∷ xs) (suc at) item there = cc (
  packets_more xs at item there,
  append_assoc (packet_in x) (packets_in (take at xs)) (packet_in item),
)

-- behind the end nothing is left
none_left : (items : List Heard) (at : ℕ) → slice_get items at ≡ None → drop at items ≡ []
none_left [] zero there = refl
none_left [] (suc at) there = refl
none_left (x ∷ xs) zero there = absurd (cc there)
none_left (x ∷ xs) (suc at) there = none_left xs at there

-- the item at a place is the first of those behind it
first_left : (items : List Heard) (at : ℕ) → slice_get (drop at items) 0 ≡ slice_get items at
first_left [] zero = refl
first_left [] (suc at) = refl
first_left (x ∷ xs) zero = refl
first_left (x ∷ xs) (suc at) = first_left xs at

-- an answer uses up its item, and brings its packet
pub heard_all : (items : List Heard) (at : ℕ) (answer : Received) → Hears (slice_get items at) answer
    → (packets_in (take (at + items_used answer) items) ≡ packets_in (take at items) ++ packets_of answer)
    × Answers (drop at items) answer (drop (at + items_used answer) items)
heard_all items at (received.Got moment arrival) there =
    let next : at + 1 ≡ suc at = omega arith in
    rw next (packets_more items at (Got moment arrival) there, item_first items at (Got moment arrival) there)
heard_all items at received.Quiet there =
    let next : at + 1 ≡ suc at = omega arith in
    rw next (packets_more items at Quiet there, item_first items at Quiet there)
heard_all items at received.Failed there =
    let next : at + 1 ≡ suc at = omega arith in
    rw next (packets_more items at Failed there, item_first items at Failed there)
heard_all items at received.Ended there =
    let here : at + 0 ≡ at = omega arith in
    rw here (sym (append-nil (packets_in (take at items))), (none_left items at there, none_left items at there))
heard_all items at received.Memory there =
    let here : at + 0 ≡ at = omega arith in
    let first : IsPacket (slice_get (drop at items) 0) = rw first_left there in
    rw here (sym (append-nil (packets_in (take at items))), (first, refl))

-- one more answer is observed of a link
pub observed_more : {packets more : List (ℕ × Arrival)} {sent : List Datagram} {counts : LinkCounts} {number : ℕ} (answer : Received)
    → more ≡ packets ++ packets_of answer → {now : LinkObserved}
    → now ≡ record { number = number; traffic = Some (record { received = packets; sent = sent }); counts = counts }
    → record { number = number; traffic = Some (record { received = more; sent = sent }); counts = counts_after_receive answer counts }
    ≡ after_receive answer now
observed_more {sent} answer is was = rw (was, is, append-nil sent) refl
