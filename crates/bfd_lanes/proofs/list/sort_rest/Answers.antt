-- What is behind `from` is what the sort left there.
use Rattle.std.proofs.Common.{arith, subst, sym}
use Rattle.std.specs.List.Sorted.{IsNonDecreasing}
use Rattle.std.proofs.lemmas.List.Sorted.{IsNonDecreasingBy-from_sort}
use Rattle.bfd_lanes.proofs.Sorted.{tail_of}
use Rattle.bfd_lanes.proofs.list.sort_rest.Goals as goal

pub returns-clause-sorted : goal.returns-clause-sorted
returns-clause-sorted c = subst IsNonDecreasing (sym (tail_of c.args.list.now c.sort_unstable.new.self c.requires (omega arith)))
    (IsNonDecreasingBy-from_sort (λ x. x) c.sort_unstable.new.self c.sort_unstable.ensures.sorted)
