use Rattle.bfd_levels.proofs.Common.{none_yet}
use Rattle.bfd_levels.proofs.Lowest.{none_lowest}
use Rattle.bfd_levels.proofs.Views.{start_levels}
use Rattle.bfd_levels.proofs.levels.LevelsTimers.make.Goals as goal

pub invariant_of-result : goal.invariant_of-result
invariant_of-result c = record {
  levels = start_levels c.in_ok-nodes.nodes.items c.requires c.in_ok-dues.ensures c.in_ok-nodes.ensures.size c.in_ok-nodes.ensures.next
      c.in_ok-nodes.ensures.prev;
  least = none_lowest c.args.count _ c.in_ok-dues.ensures;
}

pub returns : goal.returns
returns c = cc (none_yet c.args.count _ c.in_ok-dues.ensures)
