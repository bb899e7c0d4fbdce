-- The closure gives an entry's key.
use Rattle.bfd_demux.proofs.Common.{rules, answers_always}
use Rattle.bfd_demux.proofs.Changing.{slot_found}
use Rattle.bfd_demux.proofs.table.slot_of.Goals as goal

pub returns : goal.returns
returns g c =
    let facts = c.binary_search_by_key.ensures in
    slot_found g.met.K.Ord.total c.args.entries.now c.args.key.now c.binary_search_by_key.result c.requires facts.bound
    (facts.position (λ entry. entry.0) (answers_always _ _ _ (λ f a r h k. search rules)))
