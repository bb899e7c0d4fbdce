use Rattle.bfd_levels.proofs.Common.{◌+◌, ◌-◌, ◌*◌, ap, arith, back}
use Rattle.bfd_levels.proofs.Views.{paid_view}
use Rattle.bfd_levels.proofs.levels.Levels.advance_paid.Goals as goal

pub returns-clause-forward : goal.returns-clause-forward
returns-clause-forward g c = λ later.
    let time = ap (λ w. w.clock) c.self.view_is in
    paid_view c.take-self-inside.result c.args.steps.now c.take-self-inside.new.steps (2 * (c.args.t - c.args.self.now.clock) + 5)
    c.take-self-inside.new.dues time
    c.deref_mut-2.ensures.value (ap (λ w. w.dues) c.self.view_is)
    (cc (back c.self.inside.dues.len c.take-self-inside.new.dues c.self.inside.dues.items (cc))) c.take-self-inside.auto.dues (omega arith)

pub returns-clause-back : goal.returns-clause-back
returns-clause-back g c = λ earlier.
    let time = ap (λ w. w.clock) c.self.view_is in
    paid_view c.take-self-inside.result c.args.steps.now c.take-self-inside.new.steps 1 c.take-self-inside.new.dues time
    c.deref_mut-2.ensures.value (ap (λ w. w.dues) c.self.view_is)
    (cc (back c.self.inside.dues.len c.take-self-inside.new.dues c.self.inside.dues.items (cc))) c.take-self-inside.auto.dues (omega arith)
