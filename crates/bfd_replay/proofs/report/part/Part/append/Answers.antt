-- All that another part reports was reported.
use Rattle.bfd_replay.proofs.Marks.{both_by, both_reported}
use Rattle.bfd_replay.proofs.report.part.Part.append.Goals as goal

pub invariant_of-self : goal.invariant_of-self
invariant_of-self c = both_by c.append_all.result c.self.inside.marks.items c.append_all.new.marks.items c.other.inside.marks.items
    c.self.inside.text.items c.append_all.new.text.items c.other.inside.text.items c.self.invariant c.other.invariant
    c.append_all.ensures.mark c.append_all.ensures.text c.append_all.ensures.same_marks c.append_all.ensures.same_text

pub returns-clause-reported : goal.returns-clause-reported
returns-clause-reported c =
    both_reported c.append_all.result c.self.inside.marks.items c.append_all.new.marks.items c.other.inside.marks.items
    c.self.inside.text.items c.append_all.new.text.items c.other.inside.text.items
    c.args.self.now c.args.other.now c.self.invariant c.self.view_is c.other.view_is c.append_all.ensures.mark c.append_all.ensures.text
