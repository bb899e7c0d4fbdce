use Rattle.bfd_net.proofs.Answering.{heard_came}
use Rattle.bfd_net.proofs.link.hear.Goals as goal

pub returns-clause-came : goal.returns-clause-came
returns-clause-came g c = (heard_came _ _ _ _ _ _ c.heard.ensures).0

pub returns-clause-goes_on : goal.returns-clause-goes_on
returns-clause-goes_on g c = (heard_came _ _ _ _ _ _ c.heard.ensures).1
