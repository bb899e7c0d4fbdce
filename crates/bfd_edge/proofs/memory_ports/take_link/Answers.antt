use Rattle.std.proofs.Common.{rules, ◌≤◌, ◌∙◌, refl, length}
use Rattle.bfd_edge.proofs.Opening.{link_there, link_past, set_ended, set_past}
use Rattle.bfd_edge.proofs.memory_ports.take_link.Goals as goal

pub returns-then-number-len-clause-link : goal.returns-then-number-len-clause-link
returns-then-number-len-clause-link c = cc (link_there c.args.links.now.items c.args.number _ (search rules))

pub returns-then-number-len-clause-rest : goal.returns-then-number-len-clause-rest
returns-then-number-len-clause-rest c = cc (set_ended c.args.links.now.items c.args.number (search rules))

pub returns-else-number-len-clause-link : goal.returns-else-number-len-clause-link
returns-else-number-len-clause-link c =
    (c.make-ended.ensures ∙ rw (c.new.ensures.items, c.new-2.ensures.items) refl)
    ∙ link_past c.args.links.now.items c.args.number (search rules)

pub returns-else-number-len-clause-rest : goal.returns-else-number-len-clause-rest
returns-else-number-len-clause-rest c =
    let past : length c.args.links.now.items ≤ c.args.number = search rules in
    set_past c.args.links.now.items _ past
