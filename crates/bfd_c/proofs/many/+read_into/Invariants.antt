-- Fewer places are left each time.
use Rattle.std.proofs.Common.{length}
use Rattle.bfd_c.proofs.many.+read_into.Given as goal

abbrev pub decreases-read_into : goal.decreases-read_into
decreases-read_into l = length l.places.now
