-- Two sides at the start are what no events make of them.
use Rattle.bfd_pair.proofs.Pairs.{pair_start}
use Rattle.bfd_pair.proofs.pair.Pair.make.Goals as goal

pub invariant_of-result : goal.invariant_of-result
invariant_of-result c = pair_start c.in-Ok.ensures.peer c.in-Ok-open.ensures.peer c.in-Ok.ensures.opened c.in-Ok-open.ensures.opened
    c.new.ensures.items
