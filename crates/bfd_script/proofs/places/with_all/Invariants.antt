use Rattle.bfd_script.proofs.Common.{◌≡◌, ◌||◌, length, RowKind, among}
use Rattle.std.specs.BTreeSet.{contains}
use Rattle.bfd_demux.specs.contracts.row.RowKindOrd.TheImpl as order
use Rattle.bfd_script.proofs.places.with_all.Given as goal

-- what is left to put in, and what the set has, are all
abbrev pub invariant-loop-rest : goal.invariant-loop-rest
invariant-loop-rest l =
    (q : RowKind) → (among l.rest q || contains order.ghosts.cmp l.places q)
    ≡ (among l.kinds q || contains order.ghosts.cmp l.initial.places q)

abbrev pub decreases-loop-rest : goal.decreases-loop-rest
decreases-loop-rest l = length l.rest
