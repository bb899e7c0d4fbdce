use Rattle.bfd_engine.proofs.Common.{◌+◌, ◌*◌}
use Rattle.bfd_engine.proofs.beside.+jobs.Given as goal

abbrev pub decreases-beside : goal.decreases-beside
decreases-beside g l = 2 * l.first.len

abbrev pub decreases-others : goal.decreases-others
decreases-others g l = 2 * l.rest.len + 1
