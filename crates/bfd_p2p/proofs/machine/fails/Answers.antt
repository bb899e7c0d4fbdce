-- What settling left for the end of the event stays.
use Rattle.bfd_p2p.proofs.Failing.{failed_settled}
use Rattle.bfd_p2p.proofs.machine.fails.Goals as goal

pub returns-clause-settled : goal.returns-clause-settled
returns-clause-settled c = λ limit m reached settled. failed_settled _ _ _ c.args.diag m _ c.moves.new.vars reached c.requires.steady
    c.requires.up (cc) settled
