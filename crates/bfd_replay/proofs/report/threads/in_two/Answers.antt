-- The halves give what the whole gives.
use Rattle.bfd_replay.proofs.Seams.{both_gather, made}
use Rattle.bfd_replay.specs.Spread.{Gathers}
use Rattle.bfd_replay.proofs.report.threads.in_two.Goals as goal

pub returns : goal.returns
returns g c =
    both_gather {fronts = c.in_ok-fronts.fronts.items} {backs = c.in_ok-fronts.backs.items} c.in_ok-fronts.ensures
    (made (λ g. Gathers c.in_ok-fronts.fronts.items g.text.items g.txs g.drops) c.in_ok-front.was c.join-front.ensures.first)
    (made (λ g. Gathers c.in_ok-fronts.backs.items g.text.items g.txs g.drops) c.in_ok-back.was c.join-front.ensures.second)
