-- What settling left for the end of the event stays.
use Rattle.std.proofs.Common.{subst, sym}
use Rattle.bfd_p2p.specs.Over.{IsSettled}
use Rattle.bfd_p2p.proofs.machine.P2p.fail.Goals as goal

pub returns-clause-settled : goal.returns-clause-settled
returns-clause-settled c = λ limit reached settled. rw (← c.self.view_is) (c.fails.ensures.settled limit c.args.mark.now reached
    (subst (λ m. IsSettled m.config.active limit c.args.eff c.args.mark.now m.vars) (sym c.self.view_is) settled))
