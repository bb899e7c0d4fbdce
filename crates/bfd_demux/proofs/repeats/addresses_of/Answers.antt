use Rattle.bfd_demux.proofs.Common.{rules, tests, has_addresses}
use Rattle.std.proofs.lemmas.Iterator.{YieldsList-from_slice, YieldsList-from_map, items_from_collect}
use Rattle.std.proofs.lemmas.Iterator.Consumers.{YieldsList-at, YieldsList-from_filter}
use Rattle.bfd_demux.proofs.repeats.addresses_of.Goals as goal

pub returns : goal.returns
returns c = items_from_collect _ c.collect.ensures.ran
    (YieldsList-from_map _ (λ row. (row.kind, row.discr)) (YieldsList-at c.map.ensures.source
    (YieldsList-from_filter _ (λ row. has_addresses row.kind) (YieldsList-from_slice c.args.rows.now cc) c.filter.ensures.closure
    (λ x r q k. search (rules, tests))))
    c.map.ensures.closure (λ x r q k. search (rules, tests)))
