-- The keys so far are copied.
use Rattle.std.specs.Prelude.{◌≡◌, take}
use Rattle.bfd_packet.proofs.keys.KeyList.copy.Given as goal

abbrev pub invariant-loop-at : goal.invariant-loop-at
invariant-loop-at l = l.list ≡ take l.at l.own
