-- The changes of all entries, with nothing before them.
use Rattle.std.proofs.Common.{[]}
use Rattle.bfd_thread_tests.proofs.clients.take.Goals as goal

pub returns-clause-reported : goal.returns-clause-reported
returns-clause-reported c = c.in-Ok.ensures.whole [] c.requires.reported
