-- A long advance: ids that are taken off, and ids that are relinked.
use Rattle.bfd_levels.proofs.Common.{◌≡◌, ◌≢◌, inl, inr, ℕ, ◌+◌, ◌<◌, ◌≤◌, true, false, cond, List, length, sym, ap, subst, arith, nat_lt}
use Rattle.bfd_levels.proofs.Common.{slice_index, slice_set, get_or-set_same, get_or-set_other, nat_tests, cases_eq, never, Node, Unlinks}
use Rattle.bfd_levels.proofs.Common.{due_in, next_in, prev_in, place, level_of, load, loads, at_tick, at_jump, IsPlaced, Relinks}
use Rattle.bfd_levels.proofs.Digits.{place_head, level_later}
use Rattle.bfd_levels.proofs.Placing.{freed, renamed, relinked}
use Rattle.bfd_levels.proofs.Loads.{total_less, loads_gone, load_less}
use Rattle.bfd_levels.proofs.Paid.{IsPaid}

-- ---- an id is taken off: one step

pub paid_gone : {n : ℕ} (now : ℕ) {s s2 bound i : ℕ} {dues dues2 : List ℕ} {nodes : List Node} (nodes2 : List Node)
    → IsPaid n s bound (at_tick n now dues) dues nodes → i < n → slice_index dues i ≢ never → length nodes2 ≡ length nodes
    → dues2 ≡ slice_set dues i never → Unlinks i (next_in nodes) (prev_in nodes) (next_in nodes2) (prev_in nodes2) → s2 ≡ s + 1
    → IsPaid n s2 bound (at_tick n now dues2) dues2 nodes2
paid_gone {n} now {i} {dues} {nodes} nodes2 p near there size is u step =
    let dues1 = slice_set dues i never in
    let due_is : (j : ℕ) → j ≢ i → due_in dues1 j ≡ due_in dues j = λ j ne. get_or-set_other dues i j never 0 ne in
    let same : (j : ℕ) → j ≢ i → at_tick n now dues1 j ≡ at_tick n now dues j = λ j ne. cc (due_is j ne) in
    rw is (record {
      placed = freed n 1026 i (at_tick n now dues) dues nodes p.placed (at_tick n now dues1) nodes2 near size same there u;
      cost = (let less = loads_gone n i (at_tick n now dues) (at_tick n now dues1) dues dues1 near there
          (get_or-set_same dues i never 0 (omega (arith, p.placed.count))) due_is same in omega (arith, p.cost));
    })

-- ---- all ids are relinked

pub jump_begins : (n now t : ℕ) (dues : List ℕ) (j : ℕ) → at_jump n now t 0 dues j ≡ at_tick n now dues j
jump_begins n now t dues j = ap (λ b. cond b (place n t (slice_index dues j)) (place n now (slice_index dues j)))
    (let test : nat_lt j 0 ≡ false = grind (arith, nat_tests) in test)

pub jump_ends : (n now t i : ℕ) (dues : List ℕ) (j : ℕ) → j < i → at_tick n t dues j ≡ at_jump n now t i dues j
jump_ends n now t i dues j near = sym (ap (λ b. cond b (place n t (slice_index dues j)) (place n now (slice_index dues j)))
    (let test : nat_lt j i ≡ true = grind (arith, nat_tests) in test))

jump_own : (n now t i : ℕ) (dues : List ℕ) → at_jump n now t (i + 1) dues i ≡ place n t (slice_index dues i)
jump_own n now t i dues = sym (jump_ends n now t (i + 1) dues i (omega arith))

jump_was : (n now t i : ℕ) (dues : List ℕ) → at_jump n now t i dues i ≡ place n now (slice_index dues i)
jump_was n now t i dues = ap (λ b. cond b (place n t (slice_index dues i)) (place n now (slice_index dues i)))
    (let test : nat_lt i i ≡ false = grind (arith, nat_tests) in test)

jump_same : (n now t i j : ℕ) (dues : List ℕ) → j ≢ i → at_jump n now t (i + 1) dues j ≡ at_jump n now t i dues j
jump_same n now t i j dues ne = ap (λ b. cond b (place n t (slice_index dues j)) (place n now (slice_index dues j)))
    (let test : nat_lt j (i + 1) ≡ nat_lt j i = grind (arith, nat_tests) in test)

-- no id moves to a higher level
jump_lower : (n : ℕ) {now t : ℕ} (i j : ℕ) (dues : List ℕ) → now ≤ t → t < slice_index dues j
    → level_of n (at_jump n now t (i + 1) dues j) ≤ level_of n (at_jump n now t i dues j)
jump_lower n {now} {t} i j dues later above = elim (cases_eq j i) [
  | inl e ↦ rw e (
      let l = level_later n later (subst (λ k. t < slice_index dues k) e above) in
      omega (arith, ap (level_of n) (jump_own n now t i dues), ap (level_of n) (jump_was n now t i dues)))
  | inr ne ↦ (omega (arith, ap (level_of n) (jump_same n now t i j dues ne)))
]

pub jump_loads : {n now t : ℕ} (i : ℕ) (dues : List ℕ) → now ≤ t → ((j : ℕ) → j < n → slice_index dues j ≢ never → t < slice_index dues j)
    → loads n (at_jump n now t (i + 1) dues) dues ≤ loads n (at_jump n now t i dues) dues
jump_loads {n} {now} {t} i dues later above = total_less (load n (at_jump n now t i dues) dues) (load n (at_jump n now t (i + 1) dues) dues)
    n
    (λ j near. load_less n (at_jump n now t i dues) (at_jump n now t (i + 1) dues) dues j
    (λ there. jump_lower n i j dues later (above j near there)))

pub jump_moves : {n : ℕ} (now t : ℕ) {i : ℕ} {dues : List ℕ} {nodes : List Node} (nodes2 : List Node)
    → IsPlaced n 1026 (at_jump n now t i dues) dues nodes → i < n → slice_index dues i ≢ never → length nodes2 ≡ length nodes
    → Relinks i (place n t (slice_index dues i)) (next_in nodes) (prev_in nodes) (next_in nodes2) (prev_in nodes2)
    → IsPlaced n 1026 (at_jump n now t (i + 1) dues) dues nodes2
jump_moves {n} now t {i} {dues} {nodes} nodes2 w near there size u =
    relinked n 1026 i (at_jump n now t i dues) dues nodes w (at_jump n now t (i + 1) dues) nodes2 near size
    (λ j ne. jump_same n now t i j dues ne) (place n t (slice_index dues i)) there
    (place_head n t (slice_index dues i)).0 (place_head n t (slice_index dues i)).1 (jump_own n now t i dues) u

pub jump_passes : {n : ℕ} (now t i : ℕ) {dues : List ℕ} {nodes : List Node} → IsPlaced n 1026 (at_jump n now t i dues) dues nodes
    → slice_index dues i ≡ never → IsPlaced n 1026 (at_jump n now t (i + 1) dues) dues nodes
jump_passes {n} now t i {dues} {nodes} w off = renamed n 1026 i (at_jump n now t i dues) dues nodes w (at_jump n now t (i + 1) dues)
    (λ j near there. jump_same n now t i j dues (λ e. there (cc)))
