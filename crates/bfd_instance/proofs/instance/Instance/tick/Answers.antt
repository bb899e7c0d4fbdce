-- The tick leaves a stage.
use Rattle.bfd_instance.proofs.Common.{◌∙◌, ap}
use Rattle.bfd_script.specs.declared.line.entries.Line.TheVariants.{Tick}
use Rattle.bfd_instance.proofs.Stages.{stage_kept}
use Rattle.bfd_instance.proofs.instance.Instance.tick.Goals as goal

pub invariant_of-self : goal.invariant_of-self
invariant_of-self g c =
    stage_kept c.self.inside.sessions.sessions c.pass.new.sessions.sessions c.self.inside.table c.self.inside.outs c.pass.new.outs
    (Tick c.args.t) c.self.inside.sessions.last c.pass.new.sessions.last c.pass.result
    c.self.invariant (c.pass.ensures.turn c.self.inside.table.pool) (c.pass.ensures.room ∙ ap (λ o. o.room) c.clear.ensures)
