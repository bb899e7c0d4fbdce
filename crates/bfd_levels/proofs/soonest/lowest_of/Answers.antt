use Rattle.std.proofs.Common.{sym, ◌∙◌}
use Rattle.bfd_lanes.proofs.Lower.{least_is}
use Rattle.bfd_levels.proofs.Lowest.{due_some, due_none}
use Rattle.bfd_levels.proofs.soonest.lowest_of.Goals as goal

pub returns-in-Some : goal.returns-in-Some
returns-in-Some c = due_some _ c.in-Some.due (sym (least_is c.args.dues.now c.type_inv.dues) ∙ sym c.in-Some.ensures)

pub returns-in-None : goal.returns-in-None
returns-in-None c = due_none _ (sym (least_is c.args.dues.now c.type_inv.dues) ∙ sym c.in-None.ensures)
