-- What the tests found and what the packet and the draw leave, put together.
use Rattle.std.proofs.Common.{◌≡◌, ◌≤◌, ℕ, Some, false, refl, sym, subst, ap, ◌∙◌}
use Rattle.bfd_num.specs.Due.{has_come}
use Rattle.bfd_num.specs.Numbers.{floor_tick, next_j}
use Rattle.bfd_rules.specs.declared.variables.Vars.{Vars}
use Rattle.bfd_rules.specs.EventFrame.{begins}
use Rattle.bfd_rules.specs.Jitter.{pick}
use Rattle.bfd_rules.specs.Quantities.{deadline, tx_interval}
use Rattle.bfd_rules.specs.Sound.{IsSteady}
use Rattle.bfd_p2p.specs.Beat.{redrawn_at, sent_at}
use Rattle.bfd_p2p.proofs.Beats.{is_beat}
use Rattle.bfd_p2p.proofs.beating.beats.Goals as goal

-- the draw behind the packet
redrawn_is : (eff : ℕ) (v u w : Vars) → u ≡ sent_at eff v
    → w ≡ record u { tx_due = Some (pick u.base (tx_interval u) u.mult u.j); j = next_j u.j } → w ≡ redrawn_at eff v
redrawn_is eff v u w sent drawn =
    drawn ∙ ap (λ (x : Vars). record x { tx_due = Some (pick x.base (tx_interval x) x.mult x.j); j = next_j x.j }) sent

pub returns-clause-beat : goal.returns-clause-beat
returns-clause-beat c = λ _.
    let due = c.if-not-is_due.ensures in
    let plain = c.if-not-is_plain.ensures in
    let sent = c.sends_periodic.ensures in
    let base : c.sends_periodic.new.vars.base ≡ c.args.eff = ap (λ (x : Vars). x.base) sent.value in
    let last : c.redraws.new.v ≡ redrawn_at c.args.eff c.args.vars.now =
    redrawn_is c.args.eff c.args.vars.now c.sends_periodic.new.vars c.redraws.new.v sent.value c.redraws.ensures.value in
    is_beat c.args.config.now c.args.limit c.args.eff c.args.vars.now c.args.outs.now.items c.sends_periodic.new.outs.items
    c.requires.sound (plain.echoless refl) (due.late refl) (due.seq_late refl) (due.due refl) (sent.sent (begins c.args.vars.now))
    (subst (λ (v : Vars). IsSteady c.args.config.now v) sent.value sent.steady)
    (subst (λ (v : Vars). IsSteady c.args.config.now v) last (c.redraws.ensures.steady c.args.config.now sent.steady))
    (λ reached. subst (λ (v : Vars). has_come c.args.limit (deadline v) ≡ false) sent.value
    (sent.late c.args.limit reached (due.late refl)))
    (λ reached. subst (λ (v : Vars). has_come (floor_tick c.args.limit) v.tx_due ≡ false) last
    (c.redraws.ensures.later c.args.limit (subst (λ (n : ℕ). c.args.limit ≤ n) (sym base) reached)))

pub returns-clause-moment : goal.returns-clause-moment
returns-clause-moment c = λ _.
    redrawn_is c.args.eff c.args.vars.now c.sends_periodic.new.vars c.redraws.new.v c.sends_periodic.ensures.value c.redraws.ensures.value
