-- The first list of level 0 that isn't empty has the lowest due tick.
use Rattle.bfd_levels.proofs.Common.{◌≡◌, ◌≢◌, inl, inr, ℕ, zero, suc, ◌+◌, ◌/◌, ◌%◌, ◌<◌, ◌≤◌, List, [], ◌∷◌, length, sym, ◌∙◌, ap, arith}
use Rattle.bfd_levels.proofs.Common.{cases_eq, cases_lt, slice_index, never, Node, next_in, height, slot, place, at_tick, IsPlaced}
use Rattle.bfd_levels.proofs.Common.{IsLevels, head_on, id_on}
use Rattle.bfd_lanes.specs.Places.{lowest}
use Rattle.bfd_levels.proofs.Digits.{has_height, place_ahead, place_come, overdue_same, level_place, level_slot, slot_head}
use Rattle.bfd_levels.proofs.Placing.{head_id, head_own}

-- ---- one list

module _ (n m h : ℕ) (at : ℕ → ℕ) (dues : List ℕ) (nodes : List Node) (w : IsPlaced n m at dues nodes) (far : n ≤ h)
    (inside : h < n + m) where
  -- on an empty list stands no id
  pub none_on : next_in nodes h ≡ h → (j : ℕ) → j < n → slice_index dues j ≢ never → at j ≢ h
  none_on empty j near there = λ here. absurd (
      let r = w.links.ring in
      let gap = r.no_gap h j (head_on n m dues h w.count far inside) (id_on n m dues j near there)
      (cc (head_id n at j near, head_own n at h far)) (λ q. absurd (omega arith)) in
      let same = ap w.links.rank empty in
      omega (arith, r.head_rank h far, r.id_rank j near))

  -- and on any other one does
  pub first_on : next_in nodes h ≢ h → (next_in nodes h < n) × (slice_index dues (next_in nodes h) ≢ never) × (at (next_in nodes h) ≡ h)
  first_on some =
      let r = w.links.ring in
      let on = r.next_on h (head_on n m dues h w.count far inside) in
      let same = r.next_home h (head_on n m dues h w.count far inside) ∙ head_own n at h far in
      elim (cases_lt (next_in nodes h) n) [
        | inl near ↦ (near, on.there, sym (head_id n at (next_in nodes h) near) ∙ same)
        | inr head ↦ absurd (some (sym (head_own n at (next_in nodes h) head) ∙ same))
      ]

-- ---- lists of numbers

pub lowest_under : (ds : List ℕ) (i : ℕ) → i < length ds → lowest ds ≤ slice_index ds i
lowest_under [] i inside = absurd (omega arith)
lowest_under (d ∷ ds) zero inside = omega arith
lowest_under (d ∷ ds) (suc i) inside = omega (arith, lowest_under ds i (omega arith))

lowest_over : (ds : List ℕ) (x : ℕ) → x ≤ never → ((j : ℕ) → j < length ds → x ≤ slice_index ds j) → x ≤ lowest ds
lowest_over [] x top all = top
lowest_over (d ∷ ds) x top all = (let rest = lowest_over ds x top (λ j near. all (suc j) (omega arith)) in let here = all 0 (omega arith) in
    omega arith)

-- ---- level 0

slot_0 : (n tick due : ℕ) → slot n tick 0 ≡ slot n due 0 → tick % 256 ≡ due % 256
unfolding slot
slot_0 n tick due e = omega arith

-- what stands in the slot of a tick of the clock's own 256 is due at that tick
near_is : (n now tick due : ℕ) → tick / 256 ≡ now / 256 → place n now due ≡ slot n tick 0 → now < due → due ≡ tick
near_is n now tick due same at ahead =
    let level = level_place n now due in
    let own = level_slot n tick {level = 0} (omega arith) in
    let flat : height due now ≡ 0 = cc in
    let h = has_height {due = due} {now = now} ahead in
    let block = h.same1 (omega arith) in
    let own_slot : slot n due 0 ≡ slot n tick 0 = cc (place_ahead n {now = now} {due = due} ahead) in
    let digit = slot_0 n due tick own_slot in
    omega arith

module _ (n now tick : ℕ) (dues : List ℕ) (nodes : List Node) (from : ℕ) (w : IsLevels n now dues nodes) (least : from ≤ lowest dues)
    (later : now < tick) (same : tick / 256 ≡ now / 256) (none : next_in nodes (slot n now 5) ≡ slot n now 5)
    (empty : (k : ℕ) → now < k → from ≤ k → k < tick → next_in nodes (slot n k 0) ≡ slot n k 0) where
  ahead : (j : ℕ) → j < n → slice_index dues j ≢ never → now < slice_index dues j
  ahead j near there = elim (cases_lt now (slice_index dues j)) [
    | inl more ↦ more
    | inr come ↦ absurd (none_on n 1026 (slot n now 5) (at_tick n now dues) dues nodes w.placed (slot_head n now 5 (omega arith)).0
        (slot_head n now 5 (omega arith)).1 none j near there
        (place_come n now (slice_index dues j) come ∙ overdue_same n (slice_index dues j) now))
  ]

  -- an id of this block isn't below the tick, and the others are behind the block
  not_below : (j : ℕ) → j < n → slice_index dues j ≢ never → tick ≤ slice_index dues j
  not_below j near there =
      let due_ahead = ahead j near there in
      let h = has_height {due = slice_index dues j} {now = now} due_ahead in
      elim (cases_eq (height (slice_index dues j) now) 0) [
        | inl flat ↦ elim (cases_lt (slice_index dues j) tick) [
          | inl less ↦ absurd (none_on n 1026 (slot n (slice_index dues j) 0) (at_tick n now dues) dues nodes w.placed
              (slot_head n (slice_index dues j) 0 (omega arith)).0 (slot_head n (slice_index dues j) 0 (omega arith)).1
              (empty (slice_index dues j) due_ahead (let under = lowest_under dues j (let count = w.placed.count in omega arith) in
              omega arith) less) j near there (place_ahead n due_ahead ∙ ap (slot n (slice_index dues j)) flat))
          | inr more ↦ more
        ]
        | inr high ↦ (let other = h.other1 (omega arith) in omega arith)
      ]

  pub near_lowest : next_in nodes (slot n tick 0) ≢ slot n tick 0 → tick < never → tick ≡ lowest dues
  near_lowest some top =
      let on = first_on n 1026 (slot n tick 0) (at_tick n now dues) dues nodes w.placed (slot_head n tick 0 (omega arith)).0
      (slot_head n tick 0 (omega arith)).1 some in
      let is = near_is n now tick (slice_index dues (next_in nodes (slot n tick 0))) same on.2
      (ahead (next_in nodes (slot n tick 0)) on.0 on.1) in
      let count = w.placed.count in
      let under = lowest_under dues (next_in nodes (slot n tick 0)) (let near = on.0 in omega arith) in
      let over = lowest_over dues tick (omega arith)
      (λ j near. elim (cases_eq (slice_index dues j) never) [ inl e ↦ omega arith | inr there ↦ not_below j (omega arith) there ]) in
      omega arith
