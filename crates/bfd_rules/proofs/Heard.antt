-- When the last packet was heard, which the last rules of an event leave.
use Rattle.std.proofs.Common.{◌≡◌, ◌↔◌, ℕ, Bool, true, false, refl, Option, None, Some, IsSome, if◌then◌else◌}
use Rattle.bfd_num.specs.Numbers.{next_j}
use Rattle.bfd_rules.specs.declared.variables.Mark.{Mark}
use Rattle.bfd_rules.specs.declared.variables.Vars.{Vars}
use Rattle.bfd_rules.specs.Quantities.{may_send, tx_interval}
use Rattle.bfd_rules.specs.Jitter.{pick}
use Rattle.bfd_rules.specs.EventFrame.{Course, draws, drawn}

-- a choice between two courses that leave it
pub alike : (b : Bool) (x y : Course) (h : Option ℕ) → x.vars.heard ≡ h → y.vars.heard ≡ h → (if b then x else y).vars.heard ≡ h
alike true x y h hx hy = hx
alike false x y h hx hy = hy

-- the draw of a due tick leaves it
pub drawn_heard : (active : Bool) (m : Mark) (v : Vars) → (drawn active m v).heard ≡ v.heard
unfolding drawn
drawn_heard active m v = by (may_send active v) (draws m v)
  where
    by : (may anew : Bool) → (if may
        then (if anew then record v { tx_due = Some (pick v.base (tx_interval v) v.mult v.j); j = next_j v.j } else v)
        else record v { tx_due = None }).heard ≡ v.heard
    by true true = refl
    by true false = refl
    by false _ = refl

-- what was present and is kept but for one case is gone exactly in that case
pub exactly : (b : Bool) (heard after : Option ℕ) → after ≡ (if b then None else heard) → IsSome heard → (after ≡ None) ↔ (b ≡ true)
exactly true heard after is there = (λ _. refl, λ _. is)
exactly false None after is there = cc
exactly false (Some m) after is there = (λ none. cc, λ h. cc)
