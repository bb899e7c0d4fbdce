-- Renewal and the draw of a due tick leave the state.
use Rattle.bfd_session.proofs.Common.{◌≡◌, ◌∙◌, ℕ, Bool, arith, Mark, Vars, drawn, poll_renewed, used_renewed, demand_renewed, renewed}

poll_state : (before v : Vars) → (poll_renewed before v).state ≡ v.state
unfolding poll_renewed
poll_state before v = grind arith

demand_state : (eff : ℕ) (before v : Vars) → (demand_renewed eff before v).state ≡ v.state
unfolding demand_renewed
demand_state eff before v = grind arith

pub renewed_state : (eff : ℕ) (before v : Vars) → (renewed eff before v).state ≡ v.state
unfolding renewed used_renewed
renewed_state eff before v = demand_state eff before _ ∙ poll_state before v

pub drawn_state : (active : Bool) (m : Mark) (v : Vars) → (drawn active m v).state ≡ v.state
unfolding drawn
drawn_state active m v = grind arith
