use Rattle.bfd_engine.proofs.Growing.{grows}
use Rattle.bfd_engine.proofs.law.turn_laws.Goals as goal

pub returns-clause-grows : goal.returns-clause-grows
returns-clause-grows c = grows
