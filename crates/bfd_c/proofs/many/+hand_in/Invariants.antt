-- Fewer packets are left each time.
use Rattle.std.proofs.Common.{length}
use Rattle.bfd_c.proofs.many.+hand_in.Given as goal

abbrev pub decreases-hand_in : goal.decreases-hand_in
decreases-hand_in l = length l.arrivals.now
