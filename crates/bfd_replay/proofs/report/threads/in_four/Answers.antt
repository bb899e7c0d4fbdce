-- The quarters give what the whole gives.
use Rattle.bfd_replay.proofs.ReportCommon.{◌+◌, ◌++◌, ap, flat_map}
use Rattle.bfd_replay.proofs.Seams.{both_gather, four_counts, four_texts, made}
use Rattle.bfd_replay.specs.Spread.{Gathers}
use Rattle.bfd_replay.proofs.report.threads.in_four.Goals as goal

pub returns : goal.returns
returns g c = λ dealt h.
    let front =
    both_gather {fronts = c.in_ok-first.first.items} {backs = c.in_ok-first.second.items} c.in_ok-first.ensures
    (made (λ g. Gathers c.in_ok-first.first.items g.text.items g.txs g.drops) c.in_ok-first-2.was c.join-first.ensures.first)
    (made (λ g. Gathers c.in_ok-first.second.items g.text.items g.txs g.drops) c.in_ok-second.was c.join-first.ensures.second.0) in
    let all =
    both_gather {fronts = c.in_ok-fronts.fronts.items} {backs = c.in_ok-fronts.backs.items} c.in_ok-fronts.ensures
    front
    (made (λ g. Gathers c.in_ok-fronts.backs.items (g.0.text.items ++ g.1.text.items) (g.0.txs + g.1.txs) (g.0.drops + g.1.drops))
    c.in_ok-third.was c.join-first.ensures.second.1)
    dealt h in (
      four_texts c.in_ok-first-2.first.text.items c.in_ok-second.second.text.items c.in_ok-third.third.text.items
          c.in_ok-third.fourth.text.items
          (ap (flat_map (λ t. t.items)) c.new-texts.ensures.items) c.in_ok-counts.ensures.texts c.in_ok-counts-2.ensures.texts
          c.in_ok-counts-3.ensures.texts c.in_ok-txs.ensures.texts all.0,
      four_counts c.in_ok-first-2.first.txs c.in_ok-second.second.txs c.in_ok-third.third.txs c.in_ok-third.fourth.txs
          c.in_ok-counts.ensures.txs c.in_ok-counts-2.ensures.txs c.in_ok-counts-3.ensures.txs c.in_ok-txs.ensures.txs all.1,
      four_counts c.in_ok-first-2.first.drops c.in_ok-second.second.drops c.in_ok-third.third.drops c.in_ok-third.fourth.drops
          c.in_ok-counts.ensures.drops c.in_ok-counts-2.ensures.drops c.in_ok-counts-3.ensures.drops c.in_ok-txs.ensures.drops all.2,
    )
