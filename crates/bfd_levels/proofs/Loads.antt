-- Sums over the ids, and what they have to do with the potential.
use Rattle.bfd_levels.proofs.Common.{◌≡◌, ◌≢◌, inl, inr, ℕ, zero, suc, ◌+◌, ◌*◌, ◌<◌, ◌≤◌, true, false, cond, List, [], ◌∷◌, map, length}
use Rattle.bfd_levels.proofs.Common.{slice_index, None, Some, refl, sym, ◌∙◌, ap, arith, nat_eq, nat_tests, cases_eq, never, due_of, due_in}
use Rattle.bfd_levels.proofs.Common.{weight, potential, level_of, load, loads, total, at_tick}
use Rattle.bfd_levels.proofs.Digits.{level_place}

-- ---- sums

total_same : (f g : ℕ → ℕ) (n : ℕ) → ((j : ℕ) → j < n → g j ≡ f j) → total g n ≡ total f n
unfolding total
total_same f g zero h = refl
total_same f g (suc n) h = (let b = total_same f g n (λ j near. h j (omega arith)) in omega (arith, h n (omega arith)))

pub total_less : (f g : ℕ → ℕ) (n : ℕ) → ((j : ℕ) → j < n → g j ≤ f j) → total g n ≤ total f n
unfolding total
total_less f g zero h = omega arith
total_less f g (suc n) h = (let b = total_less f g n (λ j near. h j (omega arith)) in omega (arith, h n (omega arith)))

-- where one term changes, the sum changes by as much
total_change : (f g : ℕ → ℕ) {i : ℕ} (n : ℕ) → ((j : ℕ) → j ≢ i → g j ≡ f j) → i < n → total g n + f i ≡ total f n + g i
unfolding total
total_change f g zero same near = absurd (omega arith)
total_change f g {i} (suc n) same near = elim (cases_eq n i) [
  | inl e ↦ (let rest = total_same f g n (λ j l. same j (λ q. absurd (omega arith))) in
      let f_at : f n ≡ f i = cc in
      let g_at : g n ≡ g i = cc in
      omega arith)
  | inr ne ↦ (omega (arith, same n ne, total_change f g n same (omega arith)))
]

total_first : (f : ℕ → ℕ) (n : ℕ) → total f (suc n) ≡ f 0 + total (λ j. f (suc j)) n
unfolding total
total_first f zero = refl
total_first f (suc n) = omega (arith, total_first f n)

-- ---- what an id weighs

load_none : (n : ℕ) (at : ℕ → ℕ) (dues : List ℕ) (j : ℕ) → due_in dues j ≡ never → load n at dues j ≡ 0
unfolding load
load_none n at dues j e = ap (λ b. cond b 0 (2 * level_of n (at j) + 1))
    (let test : nat_eq (due_in dues j) never ≡ true = grind (arith, nat_tests) in test)

load_some : (n : ℕ) (at : ℕ → ℕ) (dues : List ℕ) (j : ℕ) → due_in dues j ≢ never → load n at dues j ≡ 2 * level_of n (at j) + 1
unfolding load
load_some n at dues j ne = ap (λ b. cond b 0 (2 * level_of n (at j) + 1))
    (let test : nat_eq (due_in dues j) never ≡ false = grind (arith, nat_tests) in test)

load_same : (n : ℕ) (at at2 : ℕ → ℕ) (dues dues2 : List ℕ) (j : ℕ) → due_in dues2 j ≡ due_in dues j → (due_in dues j ≢ never → at2 j ≡ at j)
    → load n at2 dues2 j ≡ load n at dues j
load_same n at at2 dues dues2 j d a = elim (cases_eq (due_in dues j) never) [
  | inl e ↦ load_none n at2 dues2 j (cc) ∙ sym (load_none n at dues j e)
  | inr ne ↦ cc (load_some n at2 dues2 j (λ q. ne (cc)), a ne, load_some n at dues j ne)
]

pub load_less : (n : ℕ) (at at2 : ℕ → ℕ) (dues : List ℕ) (j : ℕ) → (due_in dues j ≢ never → level_of n (at2 j) ≤ level_of n (at j))
    → load n at2 dues j ≤ load n at dues j
load_less n at at2 dues j low = elim (cases_eq (due_in dues j) never) [
  | inl e ↦ (omega (arith, load_none n at2 dues j e))
  | inr ne ↦ (omega (arith, load_some n at2 dues j ne, load_some n at dues j ne, low ne))
]

-- ---- all ids

pub loads_same : (n : ℕ) (at at2 : ℕ → ℕ) (dues : List ℕ) → ((j : ℕ) → j < n → due_in dues j ≢ never → at2 j ≡ at j)
    → loads n at2 dues ≡ loads n at dues
loads_same n at at2 dues same = total_same (load n at dues) (load n at2 dues) n
    (λ j near. load_same n at at2 dues dues j refl (same j near))

-- an id that leaves its list lowers the loads by one at least
pub loads_gone : (n i : ℕ) (at at2 : ℕ → ℕ) (dues dues2 : List ℕ) → i < n → due_in dues i ≢ never → due_in dues2 i ≡ never
    → ((j : ℕ) → j ≢ i → due_in dues2 j ≡ due_in dues j) → ((j : ℕ) → j ≢ i → at2 j ≡ at j)
    → loads n at2 dues2 + 1 ≤ loads n at dues
loads_gone n i at at2 dues dues2 near on gone same lists =
    let change = total_change (load n at dues) (load n at2 dues2) n (λ j ne. load_same n at at2 dues dues2 j (same j ne) (λ _. lists j ne))
    near in
    omega (arith, load_some n at dues i on, load_none n at2 dues2 i gone)

-- an id that moves to a lower level lowers the loads by two at least
pub loads_lower : (n i : ℕ) (at at2 : ℕ → ℕ) (dues : List ℕ) → i < n → due_in dues i ≢ never → level_of n (at2 i) < level_of n (at i)
    → ((j : ℕ) → j ≢ i → at2 j ≡ at j) → loads n at2 dues + 2 ≤ loads n at dues
loads_lower n i at at2 dues near on low lists =
    let change = total_change (load n at dues) (load n at2 dues) n (λ j ne. load_same n at at2 dues dues j refl (λ _. lists j ne)) near in
    omega (arith, load_some n at dues i on, load_some n at2 dues i on)

-- ---- between ticks the loads are the potential

load_weight : (n now : ℕ) (dues : List ℕ) (j : ℕ) → load n (at_tick n now dues) dues j ≡ weight now (due_of (slice_index dues j))
load_weight n now dues j = elim (cases_eq (slice_index dues j) never) [
  | inl e ↦ load_none n (at_tick n now dues) dues j e ∙ sym (ap (λ b. weight now (cond b None (Some (slice_index dues j))))
      (let test : nat_eq (slice_index dues j) never ≡ true = grind (arith, nat_tests) in test))
  | inr ne ↦ load_some n (at_tick n now dues) dues j ne ∙ ap (λ h. 2 * h + 1) (level_place n now (slice_index dues j))
      ∙ sym (ap (λ b. weight now (cond b None (Some (slice_index dues j))))
      (let test : nat_eq (slice_index dues j) never ≡ false = grind (arith, nat_tests) in test))
]

total_potential : (f : ℕ → ℕ) (now : ℕ) (ds : List ℕ) → ((i : ℕ) → i < length ds → f i ≡ weight now (due_of (slice_index ds i)))
    → total f (length ds) ≡ potential now (map due_of ds)
unfolding total
total_potential f now [] h = refl
total_potential f now (d ∷ ds) h =
    let here = h 0 (omega arith) in
    let rest = total_potential (λ j. f (suc j)) now ds (λ i near. h (suc i) (omega arith)) in
    omega (arith, total_first f (length ds))

pub loads_potential : (now : ℕ) (dues : List ℕ) → loads (length dues) (at_tick (length dues) now dues) dues
    ≡ potential now (map due_of dues)
loads_potential now dues = total_potential (load (length dues) (at_tick (length dues) now dues) dues) now dues
    (λ i near. load_weight (length dues) now dues i)
