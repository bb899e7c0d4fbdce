use Rattle.bfd_demux.proofs.Common.{rules, answers_always}
use Rattle.bfd_demux.proofs.Ascending.{ascending_from_sorted, keys_once-IsPermutation, keys_once-IsPermutation_back, once_ascending}
use Rattle.bfd_demux.proofs.table.sort_by_key.Goals as goal

pub returns-then-is_ascending-clause-once : goal.returns-then-is_ascending-clause-once
returns-then-is_ascending-clause-once g c _ =
    rw (← c.deref.ensures.value) (once_ascending g.met.K.Ord.total _ (c.is_ascending.ensures.rising c.if-is_ascending.true))

pub returns-clause-ascending : goal.returns-clause-ascending
returns-clause-ascending g c once =
    ascending_from_sorted g.met.K.Ord.total _ (c.sort_unstable_by_key.ensures.sorted (λ entry. entry.0)
    (answers_always _ _ _ (λ f a r h k. search rules)))
    (keys_once-IsPermutation g.K.Ord.cmp c.sort_unstable_by_key.ensures.permutation once)

pub returns-clause-once : goal.returns-clause-once
returns-clause-once g c risen = keys_once-IsPermutation_back g.K.Ord.cmp c.sort_unstable_by_key.ensures.permutation
    (rw (← c.deref-2.ensures.value) (once_ascending g.met.K.Ord.total _ (c.is_ascending-2.ensures.rising risen)))

pub returns-clause-reported : goal.returns-clause-reported
returns-clause-reported g c once = c.is_ascending-2.ensures.reported (rw c.deref-2.ensures.value (returns-clause-ascending g c once))
