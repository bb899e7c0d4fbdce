-- Where a due tick stands while the clock goes from one tick to the next, list by list.
use Rattle.bfd_levels.proofs.Common.{◌≡◌, ◌≢◌, ◌⊎◌, inl, inr, ℕ, zero, suc, ◌+◌, ◌<◌, ◌≤◌, true, false, cond, refl, sym, ◌∙◌, ap, arith}
use Rattle.bfd_levels.proofs.Common.{add-one, nat_eq, nat_tests, cases_eq, slot, place, reach, midway, GoesDown}
use Rattle.bfd_levels.proofs.Digits.{goes_down, moved_or_same, reach-le}

chosen : {a b : ℕ} (x y : ℕ) → a ≡ b → cond (nat_eq a b) x y ≡ x
chosen {a} {b} x y e = ap (λ z. cond z x y) (let test : nat_eq a b ≡ true = grind (arith, nat_tests) in test)

skipped : {a b : ℕ} (x y : ℕ) → a ≢ b → cond (nat_eq a b) x y ≡ y
skipped {a} {b} x y ne = ap (λ z. cond z x y) (let test : nat_eq a b ≡ false = grind (arith, nat_tests) in test)

hit_suc : (n before tick k due : ℕ) → midway n before tick k due ≡ slot n tick k → midway n before tick (suc k) due ≡ place n tick due
unfolding midway
hit_suc n before tick k due e = chosen _ _ e

miss_suc : (n before tick k due : ℕ) → midway n before tick k due ≢ slot n tick k
    → midway n before tick (suc k) due ≡ midway n before tick k due
unfolding midway
miss_suc n before tick k due ne = skipped _ _ ne

-- what stands on the list of the level k is moved next, and nothing else
pub midway_hit : (n before tick k due : ℕ) → midway n before tick k due ≡ slot n tick k
    → midway n before tick (k + 1) due ≡ place n tick due
midway_hit n before tick k due e = cc (add-one k, hit_suc n before tick k due e)

pub midway_miss : (n before tick k due : ℕ) → midway n before tick k due ≢ slot n tick k
    → midway n before tick (k + 1) due ≡ midway n before tick k due
midway_miss n before tick k due ne = cc (add-one k, miss_suc n before tick k due ne)

-- all the way a due tick stands where it stood, or where it will
either : (n before tick k due : ℕ) → (midway n before tick k due ≡ place n before due) ⊎ (midway n before tick k due ≡ place n tick due)
unfolding midway
either n before tick zero due = inl refl
either n before tick (suc k) due = elim (cases_eq (midway n before tick k due) (slot n tick k)) [
  | inl e ↦ inr (hit_suc n before tick k due e)
  | inr ne ↦ elim (either n before tick k due) [
    | inl e ↦ inl (miss_suc n before tick k due ne ∙ e)
    | inr e ↦ inr (miss_suc n before tick k due ne ∙ e)
  ]
]

-- and once there, it stays
remains : (n before tick k due : ℕ) → midway n before tick k due ≡ place n tick due → midway n before tick (suc k) due ≡ place n tick due
remains n before tick k due e = elim (cases_eq (midway n before tick k due) (slot n tick k)) [
  | inl q ↦ hit_suc n before tick k due q
  | inr ne ↦ miss_suc n before tick k due ne ∙ e
]

still : (n before tick k due : ℕ) → place n before due ≡ place n tick due → midway n before tick k due ≡ place n tick due
unfolding midway
still n before tick zero due e = e
still n before tick (suc k) due e = remains n before tick k due (still n before tick k due e)

reached_by : (n before tick k level due : ℕ) → level < k → place n before due ≡ slot n tick level
    → midway n before tick k due ≡ place n tick due
reached_by n before tick zero level due few at = absurd (omega arith)
reached_by n before tick (suc k) level due few at = elim (cases_eq level k) [
  | inl q ↦ elim (either n before tick k due) [
    | inl e ↦ hit_suc n before tick k due (e ∙ at ∙ ap (slot n tick) q)
    | inr e ↦ remains n before tick k due e
  ]
  | inr ne ↦ remains n before tick k due (reached_by n before tick k level due (omega arith) at)
]

-- when all lists that the tick reaches were moved, each due tick stands where it belongs
pub midway_ends : (n before : ℕ) {tick : ℕ} (due : ℕ) → tick ≡ before + 1 → midway n before tick (reach tick) due ≡ place n tick due
midway_ends n before {tick} due next = elim (moved_or_same n before due next) [
  | inl e ↦ still n before tick (reach tick) due e
  | inr hit ↦ reached_by n before tick _ _ due hit.few hit.at
]

pub midway_begins : (n before tick due : ℕ) → midway n before tick 0 due ≡ place n before due
unfolding midway
midway_begins n before tick due = refl

-- with one tick throughout nothing moves
pub midway_still : (n now k due : ℕ) → midway n now now k due ≡ place n now due
midway_still n now k due = still n now now k due refl

pub midway_down : (n before tick k due : ℕ) → before ≤ tick → tick < due → k < reach tick → midway n before tick k due ≡ slot n tick k
    → GoesDown n tick due (slot n tick k)
unfolding GoesDown
midway_down n before tick k due later ahead few at = elim (either n before tick k due) [
  | inl e ↦ goes_down n _ tick due k later ahead (omega (arith, reach-le tick)) (sym e ∙ at)
  | inr e ↦ inl (sym e ∙ at)
]

pub still_down : (n now k due : ℕ) → midway n now now k due ≡ slot n now k → GoesDown n now due (slot n now k)
unfolding GoesDown
still_down n now k due at = inl (sym (midway_still n now k due) ∙ at)
