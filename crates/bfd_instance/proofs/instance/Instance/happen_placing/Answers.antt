-- The event leaves a stage.
use Rattle.bfd_instance.proofs.Common.{◌∙◌, ap}
use Rattle.bfd_instance.proofs.Stages.{stage_kept}
use Rattle.bfd_instance.proofs.instance.Instance.happen_placing.Goals as goal

pub invariant_of-self : goal.invariant_of-self
invariant_of-self g c =
    stage_kept c.self.inside.sessions.sessions c.happen.new.sessions.sessions c.self.inside.table c.self.inside.outs c.happen.new.outs
    c.args.line c.self.inside.sessions.last c.happen.new.sessions.last c.happen.result.0
    c.self.invariant c.happen.ensures.turn (c.happen.ensures.room ∙ ap (λ o. o.room) c.clear.ensures)
