-- What is asked is the command.
use Rattle.bfd_engine.proofs.engine.Engine.command.Goals as goal

pub returns-clause-call : goal.returns-clause-call
returns-clause-call g c = c.ask.ensures.call
