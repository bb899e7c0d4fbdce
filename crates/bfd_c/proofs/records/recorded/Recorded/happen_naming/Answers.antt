-- Each record stays of its session's kind.
use Rattle.std.proofs.Common.{◌∙◌, ap}
use Rattle.bfd_c.specs.Records.{kinds_in}
use Rattle.bfd_c.proofs.Keeping.{as_many, came_keeps, given_keeps}
use Rattle.bfd_c.proofs.records.recorded.Recorded.happen_naming.Goals as goal

pub note_all-requires : goal.note_all-requires
note_all-requires g c =
    let happened = c.happen_placing-answer in
    as_many c.note_came.new.records.items happened.new.self.world.sessions
    (came_keeps c.args.line c.self.inside.instance.world happened.new.self.world happened.new.self.items happened.result.0 happened.result.1
    c.came_with-came.result
    c.self.inside.records.items c.note_came.new.records.items happened.ensures.turn c.self.invariant c.note_came.ensures)

pub invariant_of-self : goal.invariant_of-self
invariant_of-self g c =
    let happened = c.happen_placing-answer in
    ap kinds_in c.note_all.ensures ∙ given_keeps happened.new.self.world c.note_came.new.records.items happened.new.self.items
    ∙ came_keeps c.args.line c.self.inside.instance.world happened.new.self.world happened.new.self.items happened.result.0
    happened.result.1 c.came_with-came.result
    c.self.inside.records.items c.note_came.new.records.items happened.ensures.turn c.self.invariant c.note_came.ensures
