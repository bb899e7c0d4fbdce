-- The counts so far are those that were given.
use Rattle.std.proofs.Common.{◌≡◌, length, take}
use Rattle.bfd_c.proofs.looking.widened.Given as goal

abbrev pub invariant-loop-at : goal.invariant-loop-at
invariant-loop-at l = (length l.wide ≡ 25) × (take l.at l.wide ≡ take l.at l.counts)
