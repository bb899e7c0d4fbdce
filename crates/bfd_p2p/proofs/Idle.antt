-- Where a rule changes neither an interval nor whether Demand mode is active here, there is nothing to renew.
use Rattle.std.proofs.Common.{◌≡◌, ◌≤◌, ◌++◌, min, max, ℕ, Bool, true, false, List, [], refl, sym, ap, ◌∙◌, arith, append-nil}
use Rattle.std.proofs.Common.{if◌then◌else◌, Option, Some}
use Rattle.std.proofs.lemmas.Grind.{common_steps}
use Rattle.std.proofs.lemmas.Bool.{eq-eqb}
use Rattle.bfd_rules.specs.declared.outputs.Out.{Out}
use Rattle.bfd_rules.specs.declared.variables.Vars.{Vars}
use Rattle.bfd_rules.specs.Quantities.{adv_tx, demand_here, is_idle}
use Rattle.bfd_packet.specs.declared.control.Control.{Control}
use Rattle.bfd_packet.specs.declared.keys.SeqState.{SeqState}
use Rattle.bfd_rules.specs.declared.variables.Mark.{Mark}
use Rattle.bfd_rules.specs.EventFrame.{Course, course, changes, changed_between}
use Rattle.bfd_rules.specs.Renewal.{poll_renewed, used_renewed, demand_renewed, renewed}
use Rattle.bfd_rules.specs.Sound.{IsRenewed}
use Rattle.bfd_rules.proofs.Still.{same_itself}
use Rattle.bfd_p2p.specs.Frame.{moves, renews}
use Rattle.bfd_p2p.specs.Settle.{poll_sent}

poll_stands : (before v : Vars) → adv_tx v ≡ adv_tx before → v.rx ≡ before.rx → poll_renewed before v ≡ v
unfolding poll_renewed
poll_stands before v adv rx = rw (eq-eqb (adv_tx v) (adv_tx before) adv, eq-eqb v.rx before.rx rx) refl

-- an interval in use that follows is the one that it follows
tx_stands : (b : Bool) {used adv : ℕ} → (b ≡ true → used ≡ adv) → used ≤ adv → (if b then adv else min used adv) ≡ used
tx_stands true settled most = sym (settled refl)
tx_stands false settled most = grind (arith, common_steps)

rx_stands : (b : Bool) {used rx : ℕ} → (b ≡ true → used ≡ rx) → rx ≤ used → (if b then rx else max used rx) ≡ used
rx_stands true settled least = sym (settled refl)
rx_stands false settled least = grind (arith, common_steps)

used_stands : {v : Vars} → IsRenewed v → used_renewed v ≡ v
unfolding used_renewed
used_stands {v} h = ap (λ n. record v { used_tx = n; used_rx = if is_idle v.poll then v.rx else max v.used_rx v.rx })
    (tx_stands _ h.settled_tx h.tx_at_most)
    ∙ ap (λ n. record v { used_tx = v.used_tx; used_rx = n }) (rx_stands _ h.settled_rx h.rx_at_least)

both_stand : (v x y : Vars) (a b : Bool) → b ≡ a → (if a then (if b then v else x) else (if b then y else v)) ≡ v
both_stand v x y true true e = refl
both_stand v x y true false e = cc
both_stand v x y false true e = cc
both_stand v x y false false e = refl

demand_stands : (eff : ℕ) (before v : Vars) → demand_here v ≡ demand_here before → demand_renewed eff before v ≡ v
unfolding demand_renewed
demand_stands eff before v e = both_stand v _ _ _ _ e

renewed_idle : (eff : ℕ) (before : Vars) {v : Vars} → IsRenewed v → adv_tx v ≡ adv_tx before → v.rx ≡ before.rx
    → demand_here v ≡ demand_here before → renewed eff before v ≡ v
unfolding renewed
renewed_idle eff before {v} h adv rx demand = cc (poll_stands before v adv rx, used_stands h, demand_stands eff before v demand)

-- a rule that changes nothing renews nothing
pub renews_none : (eff : ℕ) (s : Course) → IsRenewed s.vars → renews eff s.vars s ≡ s
unfolding renews
renews_none eff s h = ap (λ (v : Vars). record s { vars = v }) (renewed_idle eff s.vars h refl refl refl)

-- unchanged variables are not reported
changes_none : (discr : ℕ) (s : Course) → changes discr s.vars s ≡ s
unfolding changes
changes_none discr s =
    let unannounced : changed_between discr s.vars s.vars ≡ [] = rw (same_itself s.vars.state) refl in
    ap (λ os. record s { vars = s.vars; outs = os }) (ap (λ os. s.outs ++ os) unannounced ∙ append-nil s.outs)

-- a rule that changes nothing does nothing
pub moves_none : (discr eff : ℕ) (s : Course) → IsRenewed s.vars → moves discr eff s.vars s ≡ s
unfolding moves
moves_none discr eff s h = cc (renewed_idle eff s.vars h refl refl refl, changes_none discr s)

-- nor does a periodic packet leave anything to renew
pub renews_announced : (eff : ℕ) (seq : SeqState) (v : Vars) (m : Mark) (os : List Out)
    → IsRenewed (record v { seq = seq; poll = poll_sent eff v.poll; base = eff })
    → course (record v { seq = seq; poll = poll_sent eff v.poll; base = eff }) m os
    ≡ renews eff (record v { seq = seq; poll = poll_sent eff v.poll; base = eff }) (course v m os)
unfolding renews
renews_announced eff seq v m os h = cc (renewed_idle eff v h refl refl refl)

-- nor does the sequence state that a packet leaves
pub renews_sequence : (eff : ℕ) (seq : SeqState) (heard : Option ℕ) (v : Vars) (m : Mark) (os : List Out) → IsRenewed v
    → course (record v { seq = seq; seq_heard = heard }) m os ≡ renews eff (record v { seq = seq; seq_heard = heard }) (course v m os)
unfolding renews
renews_sequence eff seq heard v m os h =
    let renewed_still : IsRenewed (record v { seq = seq; seq_heard = heard }) = record {
      settled_tx = h.settled_tx;
      tx_at_most = h.tx_at_most;
      settled_rx = h.settled_rx;
      rx_at_least = h.rx_at_least;
    } in
    cc (renewed_idle eff v renewed_still refl refl refl)

-- the variables with the peer's fields
abbrev pub heard_from : ℕ → Control → Vars → Vars
heard_from eff packet v = record v {
  remote_discr = packet.my;
  remote_state = packet.state;
  remote_demand = packet.demand;
  remote_min_rx = packet.min_rx;
  remote_min_echo = packet.min_echo;
  remote_mult = packet.mult;
  remote_tx = packet.min_tx;
  heard = Some eff;
}

-- nor, without Demand mode, the peer's fields
pub renews_fields : (eff : ℕ) (packet : Control) (v : Vars) (m : Mark) (os : List Out) → IsRenewed v → v.demand ≡ false
    → course (heard_from eff packet v) m os ≡ renews eff (heard_from eff packet v) (course v m os)
unfolding renews
renews_fields eff packet v m os h demand =
    let renewed_still : IsRenewed (heard_from eff packet v) = record {
      settled_tx = h.settled_tx;
      tx_at_most = h.tx_at_most;
      settled_rx = h.settled_rx;
      rx_at_least = h.rx_at_least;
    } in
    let inactive : demand_here (heard_from eff packet v) ≡ demand_here v = rw demand refl in
    cc (renewed_idle eff v renewed_still refl refl inactive)
