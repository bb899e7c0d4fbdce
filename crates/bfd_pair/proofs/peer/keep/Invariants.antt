-- What is kept so far and what is still to be kept make up the whole, and there is room for it.
use Rattle.bfd_pair.proofs.Common.{◌≡◌, ◌≤◌, ◌+◌, ◌++◌, length, drop, vec_len, vec_capacity, packets_among}
use Rattle.bfd_pair.proofs.peer.keep.Given as goal

abbrev pub invariant-loop-item : goal.invariant-loop-item
invariant-loop-item l = record {
  whole : l.sent.items ++ packets_among (drop l.item-index l.items) ≡ l.initial.sent.items ++ packets_among l.initial.items;
  room : vec_len l.sent + length (packets_among (drop l.item-index l.items)) ≤ vec_capacity l.sent;
}
