-- What the tests found, put together.
use Rattle.std.proofs.Common.{refl, subst}
use Rattle.bfd_rules.specs.declared.variables.Vars.{Vars}
use Rattle.bfd_rules.specs.Sound.{IsSteady}
use Rattle.bfd_p2p.proofs.Repeated.{announces_nothing}
use Rattle.bfd_p2p.proofs.again.hears.Goals as goal

pub returns-clause-again : goal.returns-clause-again
returns-clause-again c = λ _.
    let calm = c.if-not-is_calm.ensures in
    let announced = c.if-not-is_repeated.ensures in
    let none = c.if-not-rests.ensures in
    announces_nothing c.args.config.now c.args.eff c.args.ttl c.args.raw.now c.args.packet.now c.args.vars.now c.requires.fields
    c.requires.steady
    (calm.up refl) (calm.plain refl) (calm.demand refl) (calm.remote_demand refl) (calm.echoless refl) (calm.there refl) (calm.may refl)
    (announced.up refl) (announced.poll refl) (announced.fin refl) (announced.discr refl) (announced.demand refl) (announced.rx refl)
    (announced.echo refl)
    (announced.mult refl) (announced.tx refl) (c.if-not-passes.ensures refl) (none.late refl) (none.seq_late refl) (none.due_later refl)
    (subst (λ (v : Vars). IsSteady c.args.config.now v) c.hears_moment.ensures.value
    (c.hears_moment.ensures.steady c.args.config.now c.requires.steady (calm.up refl)))
