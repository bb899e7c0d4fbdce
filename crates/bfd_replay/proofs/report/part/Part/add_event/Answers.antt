-- One more piece was reported.
use Rattle.bfd_replay.proofs.ReportCommon.{◌∷◌, [], whole_piece}
use Rattle.bfd_replay.proofs.Marks.{part_by, reported_by, single, whole_has}
use Rattle.bfd_replay.proofs.report.part.Part.add_event.Goals as goal

pub invariant_of-self : goal.invariant_of-self
invariant_of-self c =
    part_by c.append_event.result c.self.inside.marks.items c.append_event.new.marks.items c.self.inside.text.items
    c.append_event.new.text.items
    (whole_piece c.args.number (record { items = c.args.outs.now; answer = c.args.answer.now }) ∷ []) c.self.invariant
    c.append_event.ensures.mark
    (single c.append_event.result c.self.inside.text.items c.append_event.new.text.items
    (whole_piece c.args.number (record { items = c.args.outs.now; answer = c.args.answer.now })) c.append_event.ensures.text)
    c.append_event.ensures.same_marks c.append_event.ensures.same_text
    (whole_has c.args.number (record { items = c.args.outs.now; answer = c.args.answer.now }), tt)

pub returns-clause-reported : goal.returns-clause-reported
returns-clause-reported c =
    reported_by c.append_event.result c.self.inside.marks.items c.append_event.new.marks.items c.self.inside.text.items
    c.append_event.new.text.items
    (whole_piece c.args.number (record { items = c.args.outs.now; answer = c.args.answer.now }) ∷ []) c.args.self.now c.self.invariant
    c.self.view_is
    c.append_event.ensures.mark
    (single c.append_event.result c.self.inside.text.items c.append_event.new.text.items
    (whole_piece c.args.number (record { items = c.args.outs.now; answer = c.args.answer.now })) c.append_event.ensures.text)
