-- Variables that an event left as they were: there is no news of them, and their due tick stands.
use Rattle.std.proofs.Common.{◌≡◌, ◌==◌, ◌&&◌, not, ℕ, Bool, true, false, refl, sym, ap, Option, None, Some, is_none, IsSome, IsTrue, ◌↔◌}
use Rattle.std.proofs.Common.{if◌then◌else◌}
use Rattle.std.proofs.lemmas.Bool.{eq-eqb}
use Rattle.bfd_packet.specs.declared.control.State.{State}
use Rattle.bfd_packet.specs.declared.control.State.TheVariants.{AdminDown, Down, Init, Up}
use Rattle.bfd_rules.specs.declared.variables.Vars.{Vars}
use Rattle.bfd_rules.specs.Quantities.{may_send, same_state, tx_interval}
use Rattle.bfd_rules.specs.EventFrame.{begins, is_news, draws, drawn}

-- states that the test finds the same are the same
same_state_is : (a b : State) → same_state a b ≡ true → a ≡ b
same_state_is AdminDown AdminDown h = refl
same_state_is Down Down h = refl
same_state_is Init Init h = refl
same_state_is Up Up h = refl
same_state_is a b h = cc

-- a state is the same as itself
pub same_itself : (a : State) → same_state a a ≡ true
same_itself AdminDown = refl
same_itself a = refl

both_true : (a b : Bool) → not (a && b) ≡ false → a ≡ true
both_true true b h = refl
both_true false b h = cc

-- where there is no news, the state is the one that the event began with
pub unchanged_state : (v0 v : Vars) → is_news (begins v0) v ≡ false → v.state ≡ v0.state
unchanged_state v0 v h = same_state_is v.state v0.state (both_true (same_state v.state v0.state) _ h)

-- there is no news of variables as they were when the event began
pub no_news : (v : Vars) → is_news (begins v) v ≡ false
no_news v = rw (same_itself v.state, eq-eqb v.diag v.diag refl) refl

one_stands : (b : Bool) → (if b then not b else b) ≡ false
one_stands true = refl
one_stands false = refl

some_is_not_none : (o : Option ℕ) → IsSome o → is_none o ≡ false
some_is_not_none None h = cc
some_is_not_none (Some x) h = refl

draw_stands : (v : Vars) → IsSome v.tx_due → draws (begins v) v ≡ false
draw_stands v there = rw (some_is_not_none v.tx_due there, eq-eqb (tx_interval v) (tx_interval v) refl, one_stands (v.mult == 1)) refl

gone : (o : Option ℕ) {b : Bool} → (IsSome o ↔ IsTrue b) → b ≡ false → o ≡ None
gone None both h = refl
gone (Some x) {b} both h = let true_too = both.0 refl in cc

drawn_by : (active : Bool) (v : Vars) (may : Bool) → may_send active v ≡ may → (IsSome v.tx_due ↔ IsTrue (may_send active v))
    → drawn active (begins v) v ≡ v
unfolding drawn
drawn_by active v true is due = rw (is, draw_stands v (due.1 is)) refl
drawn_by active v false is due = rw is (ap (λ o. record v { tx_due = o }) (sym (gone v.tx_due due is)))

-- a due tick stands if it is present exactly while packets may be sent
pub drawn_stands : (active : Bool) (v : Vars) → (IsSome v.tx_due ↔ IsTrue (may_send active v)) → drawn active (begins v) v ≡ v
drawn_stands active v due = drawn_by active v (may_send active v) refl due
