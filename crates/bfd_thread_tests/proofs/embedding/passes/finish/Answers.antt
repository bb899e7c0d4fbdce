-- All that caller 0 made was joined.
use Rattle.bfd_thread_tests.proofs.Joins.{all_joined}
use Rattle.bfd_thread_tests.proofs.embedding.passes.finish.Goals as goal

pub close-requires-clause-joined : goal.close-requires-clause-joined
close-requires-clause-joined g c = all_joined c.args.engine c.requires.passes c.in_ok-list.ensures.joined
