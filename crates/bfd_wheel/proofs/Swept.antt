-- All lists that can hold what has come by t are those of the ticks from now on up to t.
use Rattle.bfd_wheel.proofs.Common.{◌≡◌, ◌≢◌, inl, inr, ℕ, ◌+◌, ◌%◌, ◌^◌, ◌<◌, ◌≤◌, true, cond, List, max, refl, sym, ◌∙◌, ap, subst, arith}
use Rattle.bfd_wheel.proofs.Common.{nat_le, slice_index, nat_tests, cases_eq, cases_lt, never, Node, place, IsWheel, Took}
use Rattle.bfd_wheel.proofs.Wheels.{moved}

-- the lists of the ticks from now on, before tick, have nothing left
pub Left : ℕ → ℕ → ℕ → ℕ → List ℕ → Type 0
Left n now t tick dues = (k j : ℕ) → now ≤ k → k < tick → j < n → slice_index dues j ≢ never
    → place n now (slice_index dues j) ≡ place n now k → t < slice_index dues j

pub left_none : (n now t : ℕ) (dues : List ℕ) → Left n now t now dues
unfolding Left
left_none n now t dues = λ k j later before near there at. absurd (omega arith)

pub left_more : {n m : ℕ} (now : ℕ) {t : ℕ} (tick : ℕ) {dues dues2 items items2 : List ℕ} → m ≡ n → Left n now t tick dues
    → Took t dues dues2 items items2 → ((j : ℕ) → j < m → slice_index dues2 j ≢ never → place m now (slice_index dues2 j) ≡ place m now tick
    → t < slice_index dues2 j) → Left n now t (tick + 1) dues2
unfolding Left
left_more {n} now tick {dues2} same_count left took here = λ k j later before near there at. elim (cases_eq k tick) [
  | inl e ↦ here j (omega arith) there
      (ap (λ z. place z now (slice_index dues2 j)) same_count ∙ at ∙ ap (place n now) e ∙ ap (λ z. place z now tick) (sym same_count))
  | inr ne ↦ elim (took.same_or_gone j) [
    | inl same ↦ rw same (left k j later (omega arith) near (λ q. there (cc)) (ap (place n now) (sym same) ∙ at))
    | inr gone ↦ absurd (there gone.0)
  ]
]

overdue : (n now : ℕ) {due : ℕ} → due ≤ now → place n now due ≡ n + 4096
overdue n now {due} h = ap (λ b. cond b (n + 4096) (n + due % 4096)) (let come : nat_le due now ≡ true = grind (arith, nat_tests) in come)

pub left_all : {n : ℕ} (now : ℕ) {t tick : ℕ} (dues : List ℕ) → Left n now t tick dues → max now t < tick → (j : ℕ) → j < n
    → slice_index dues j ≢ never → t < slice_index dues j
unfolding Left
left_all {n} now {t} dues left end j near there = elim (cases_lt t (slice_index dues j)) [
  | inl more ↦ more
  | inr le ↦ elim (cases_lt now (slice_index dues j)) [
    | inl above ↦ left (slice_index dues j) j (omega arith) (omega arith) near there refl
    | inr past ↦ left now j (omega arith) (omega arith) near there (overdue n now past ∙ sym (overdue n now {due = now} (omega arith)))
  ]
]

-- the greatest tick so far, where nothing at most t is left
pub moved_on : {n now t : ℕ} {dues : List ℕ} {nodes : List Node} → IsWheel n now dues nodes → t < 2 ^ 60
    → ((j : ℕ) → j < n → slice_index dues j ≢ never → t < slice_index dues j) → IsWheel n (max now t) dues nodes
moved_on {n} {now} {t} {dues} {nodes} w early above = elim (cases_lt now t) [
  | inl later ↦ subst (λ k. IsWheel n k dues nodes) (let e : t ≡ max now t = omega arith in e) (moved w (omega arith) early above)
  | inr back ↦ subst (λ k. IsWheel n k dues nodes) (let e : now ≡ max now t = omega arith in e) w
]
