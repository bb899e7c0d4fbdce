use Rattle.bfd_script.proofs.Common.{◌≡◌, ◌++◌, take, flat_map, item_line}
use Rattle.bfd_script.proofs.report.push_items.Given as goal

abbrev pub invariant-loop-out : goal.invariant-loop-out
invariant-loop-out l = l.text.items ≡ l.initial.text.items ++ flat_map (item_line l.number) (take l.out-index l.outs)
