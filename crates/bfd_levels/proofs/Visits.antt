-- A walk along a list that a tick reaches, visit by visit.
use Rattle.bfd_levels.proofs.Common.{◌≡◌, ◌≢◌, ◌⊎◌, inl, inr, ℕ, ◌+◌, ◌<◌, ◌≤◌, List, length, refl, slice_index, arith, never, Node}
use Rattle.bfd_levels.proofs.Common.{next_in, place, level_of, slot, midway, at_midway, loads, IsPlaced, Visit, takes, moves, stays}
use Rattle.bfd_levels.proofs.Common.{CanMove, GoesDown}
use Rattle.bfd_levels.proofs.Digits.{place_head}
use Rattle.bfd_levels.proofs.Placing.{can_move}
use Rattle.bfd_levels.proofs.Midway.{midway_hit, midway_miss}
use Rattle.bfd_levels.proofs.Walks.{IsWalk, cur_from, walk_stays, walk_takes, walk_moves, walk_placed, walk_spent, walk_left}

-- a visit never lowers the count of steps
pub visit_rises : {n tick head id t : ℕ} {dues dues2 : List ℕ} {nodes nodes2 : List Node} {s s2 : ℕ}
    → Visit n tick head id t dues dues2 nodes nodes2 s s2 → s ≤ s2
visit_rises (takes le is u cost) = omega arith
visit_rises (moves above is other u cost) = omega arith
visit_rises (stays above is same here cost) = omega arith

module _ (n tick head t s s2 bound : ℕ) (from : ℕ → ℕ) (dues : List ℕ) (nodes : List Node) (cur i : ℕ)
    (w : IsWalk n 1026 head t s bound from (place n tick) dues nodes cur i) (near : cur < n) where
  pub walk_can_move : CanMove cur 1026 dues nodes
  walk_can_move = can_move n 1026 cur w.at dues nodes w.placed near w.on.there

  visited_by : {dues2 : List ℕ} {nodes2 : List Node} → length nodes2 ≡ length nodes
      → ((d : ℕ) → t < d → from d ≡ head → GoesDown n tick d head)
      → Visit n tick head cur t dues dues2 nodes nodes2 s s2
      → IsWalk n 1026 head t s2 bound from (place n tick) dues2 nodes2 (next_in nodes cur) (i + 1)
  unfolding GoesDown
  visited_by {nodes2} size down (takes le is u cost) =
      rw cost (rw is (walk_takes n 1026 head t s bound from (place n tick) dues nodes cur i w nodes2 near size u))
  visited_by {nodes2} size down (moves above is other u cost) =
      let lower : level_of n (place n tick (slice_index dues cur)) < level_of n head =
      elim (down (slice_index dues cur) above (cur_from n 1026 head t s bound from (place n tick) dues nodes cur i w near)) [
        | inl e ↦ absurd (other e)
        | inr l ↦ l
      ] in
      rw cost (rw is (walk_moves n 1026 head t s bound from (place n tick) dues nodes cur i w nodes2 near above
      (place_head n tick (slice_index dues cur)).0 (place_head n tick (slice_index dues cur)).1 refl lower size u))
  visited_by size down (stays above is same here cost) =
      rw cost (rw is (rw same (walk_stays n 1026 head t s bound from (place n tick) dues nodes cur i w near above here)))

  -- the walk goes on by a visit, which was made with k ids, which are n
  pub walk_visits : {k : ℕ} (level before : ℕ) {dues2 : List ℕ} {nodes2 : List Node} → k ≡ n → head ≡ slot n tick level
      → length nodes2 ≡ length nodes
      → ((d : ℕ) → t < d → from d ≡ slot n tick level → GoesDown n tick d (slot n tick level))
      → Visit k tick head cur t dues dues2 nodes nodes2 s s2
      → IsWalk n 1026 head t s2 bound from (place n tick) dues2 nodes2 (next_in nodes cur) (i + 1)
  walk_visits level before same is size down v = visited_by size (λ d above here. rw is (down d above (cc))) (rw (← same) v)

-- the end of the walk along the list of a level
module _ (n before tick level head t s bound : ℕ) (dues : List ℕ) (nodes : List Node) (cur i : ℕ)
    (w : IsWalk n 1026 head t s bound (midway n before tick level) (place n tick) dues nodes cur i) (is : head ≡ slot n tick level)
    (far : n ≤ head) (done : (cur ≡ head) ⊎ (n ≤ i)) where
  hit : (d : ℕ) → midway n before tick level d ≡ head → midway n before tick (level + 1) d ≡ place n tick d
  hit d e = midway_hit n before tick level d (cc)

  miss : (d : ℕ) → midway n before tick level d ≢ head → midway n before tick (level + 1) d ≡ midway n before tick level d
  miss d ne = midway_miss n before tick level d (λ e. ne (cc))

  pub level_placed : IsPlaced n 1026 (at_midway n before tick (level + 1) dues) dues nodes
  level_placed = walk_placed n 1026 head t s bound (midway n before tick level) (place n tick) dues nodes cur i w
      (midway n before tick (level + 1)) hit miss far done

  pub level_spent : s + loads n (at_midway n before tick (level + 1) dues) dues ≤ bound
  level_spent = walk_spent n 1026 head t s bound (midway n before tick level) (place n tick) dues nodes cur i w
      (midway n before tick (level + 1)) hit miss far done

  pub level_left : (j : ℕ) → j < n → slice_index dues j ≢ never → midway n before tick level (slice_index dues j) ≡ slot n tick level
      → t < slice_index dues j
  level_left j close there here = walk_left n 1026 head t s bound (midway n before tick level) (place n tick) dues nodes cur i w
      (midway n before tick (level + 1)) hit miss far done close there (cc)
