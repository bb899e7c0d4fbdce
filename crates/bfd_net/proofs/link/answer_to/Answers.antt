use Rattle.bfd_net.proofs.Answering.{failed_else}
use Rattle.bfd_net.proofs.link.answer_to.Goals as goal

pub returns-in_default : goal.returns-in_default
returns-in_default c = failed_else c.args.kind c.in_default.not-WouldBlock c.in_default.not-TimedOut
