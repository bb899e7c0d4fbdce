use Rattle.bfd_wheel.proofs.Views.{none_yet, start_wheel}
use Rattle.bfd_wheel.proofs.hashed.HashedWheelTimers.make.Goals as goal

pub invariant_of-result : goal.invariant_of-result
invariant_of-result c = start_wheel c.in_ok-nodes.nodes.items c.requires c.in_ok-dues.ensures c.in_ok-nodes.ensures.size
    c.in_ok-nodes.ensures.next c.in_ok-nodes.ensures.prev

pub returns : goal.returns
returns c = none_yet c.args.count _ c.in_ok-dues.ensures
