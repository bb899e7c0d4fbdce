-- The pieces of a tick were reported.
use Rattle.bfd_replay.proofs.ReportCommon.{map, item_piece}
use Rattle.bfd_replay.proofs.Marks.{part_by, reported_by, items_have}
use Rattle.bfd_replay.proofs.report.part.Part.add_tick.Goals as goal

pub invariant_of-self : goal.invariant_of-self
invariant_of-self c =
    part_by c.append_items.result c.self.inside.marks.items c.append_items.new.marks.items c.self.inside.text.items
    c.append_items.new.text.items
    (map (item_piece c.args.number) c.args.outs.now) c.self.invariant c.append_items.ensures.mark c.append_items.ensures.text
    c.append_items.ensures.same_marks c.append_items.ensures.same_text
    (items_have c.args.number c.args.outs.now)

pub returns-clause-reported : goal.returns-clause-reported
returns-clause-reported c =
    reported_by c.append_items.result c.self.inside.marks.items c.append_items.new.marks.items c.self.inside.text.items
    c.append_items.new.text.items
    (map (item_piece c.args.number) c.args.outs.now) c.args.self.now c.self.invariant c.self.view_is c.append_items.ensures.mark
    c.append_items.ensures.text
