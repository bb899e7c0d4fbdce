use Rattle.bfd_script.proofs.Common.{◌≡◌, ◌++◌, by_discr, AreRows}
use Rattle.bfd_script.proofs.rows.with_all.Given as goal

-- what is in both, and its order
abbrev pub invariant-loop-config : goal.invariant-loop-config
invariant-loop-config l = record {
  entries : by_discr l.rising.items ++ l.others.entries ≡ by_discr l.initial.rising.items ++ l.initial.others.entries;
  rows : AreRows l.rising.items l.others.entries;
}

abbrev pub decreases-loop-config : goal.decreases-loop-config
decreases-loop-config l = goal.left-loop-config l
