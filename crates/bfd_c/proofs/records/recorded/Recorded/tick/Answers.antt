-- Each record stays of its session's kind.
use Rattle.std.proofs.Common.{◌∙◌, None, ap, refl}
use Rattle.bfd_script.specs.declared.line.entries.Line.TheVariants.{Tick}
use Rattle.bfd_c.specs.Records.{kinds_in}
use Rattle.bfd_c.specs.declared.records.kept.Came.TheVariants.{Nothing}
use Rattle.bfd_c.proofs.Keeping.{as_many, came_keeps, given_keeps}
use Rattle.bfd_c.proofs.records.recorded.Recorded.tick.Goals as goal

pub note_all-requires : goal.note_all-requires
note_all-requires g c =
    let ticked = c.tick-answer in
    as_many c.self.inside.records.items ticked.new.self.world.sessions
    (came_keeps (Tick c.args.t) c.self.inside.instance.world ticked.new.self.world ticked.new.self.items ticked.result None Nothing
    c.self.inside.records.items c.self.inside.records.items ticked.ensures.turn c.self.invariant refl)

pub invariant_of-self : goal.invariant_of-self
invariant_of-self g c =
    let ticked = c.tick-answer in
    ap kinds_in c.note_all.ensures ∙ given_keeps ticked.new.self.world c.self.inside.records.items ticked.new.self.items
    ∙ came_keeps (Tick c.args.t) c.self.inside.instance.world ticked.new.self.world ticked.new.self.items ticked.result None Nothing
    c.self.inside.records.items c.self.inside.records.items ticked.ensures.turn c.self.invariant refl
