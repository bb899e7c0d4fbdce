-- The packet leaves a stage, and is answered by the first test that it fails.
use Rattle.bfd_instance.proofs.Common.{◌∙◌, ap}
use Rattle.bfd_script.specs.declared.line.entries.Line.TheVariants.{Rx}
use Rattle.bfd_instance.proofs.Judged.{judged}
use Rattle.bfd_instance.proofs.Stages.{stage_kept}
use Rattle.bfd_instance.proofs.instance.Instance.hear.Goals as goal

pub invariant_of-self : goal.invariant_of-self
invariant_of-self g c =
    stage_kept c.self.inside.sessions.sessions c.arrive.new.sessions.sessions c.self.inside.table c.self.inside.outs c.arrive.new.outs
    (Rx c.args.moment c.args.arrival) c.self.inside.sessions.last c.arrive.new.sessions.last c.arrive.result.0
    c.self.invariant (rw (← c.self.invariant.configs) c.arrive.ensures.turn) (c.arrive.ensures.room ∙ ap (λ o. o.room) c.clear.ensures)

pub returns-clause-turn : goal.returns-clause-turn
returns-clause-turn g c = rw (← c.self.view_is, ← c.self.invariant.configs) c.arrive.ensures.turn

pub returns-clause-reached : goal.returns-clause-reached
returns-clause-reached g c = rw (← c.self.view_is, ← c.self.invariant.configs) c.arrive.ensures.reached

pub returns-clause-judged : goal.returns-clause-judged
returns-clause-judged g c = judged c.args.moment c.args.arrival _ _ _ _ (returns-clause-turn g c)
