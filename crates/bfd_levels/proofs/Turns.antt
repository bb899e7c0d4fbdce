-- The clock at one tick: the lists that it reaches one after another, and the overdue list.
use Rattle.bfd_levels.proofs.Common.{◌≡◌, ℕ, ◌+◌, List, sym, arith, slice_index, Node, reach, at_tick, at_midway, loads, IsPlaced}
use Rattle.bfd_levels.proofs.Placing.{renamed}
use Rattle.bfd_levels.proofs.Loads.{loads_same}
use Rattle.bfd_levels.proofs.Midway.{midway_begins, midway_ends, midway_still}
use Rattle.bfd_levels.proofs.Paid.{IsPaid, paid_renamed}

pub turn_begins : {n : ℕ} (before tick s : ℕ) {dues : List ℕ} {nodes : List Node} → IsPlaced n 1026 (at_tick n before dues) dues nodes
    → IsPaid n s (s + 0 + loads n (at_tick n before dues) dues) (at_midway n before tick 0 dues) dues nodes
turn_begins {n} before tick s {dues} {nodes} w =
    paid_renamed n s (s + 0 + loads n (at_tick n before dues) dues) (at_tick n before dues) (at_midway n before tick 0 dues) dues nodes
    (record { placed = w; cost = omega arith }) (λ j near there. midway_begins n before tick (slice_index dues j))

pub turn_ends : {n : ℕ} (before : ℕ) {tick level s bound : ℕ} {dues : List ℕ} {nodes : List Node} → tick ≡ before + 1 → level ≡ reach tick
    → IsPaid n s bound (at_midway n before tick level dues) dues nodes → IsPaid n s bound (at_tick n tick dues) dues nodes
turn_ends {n} before {tick} {level} {s} {bound} {dues} {nodes} next all p =
    paid_renamed n s bound (at_midway n before tick level dues) (at_tick n tick dues) dues nodes p
    (λ j near there. sym (cc (midway_ends n before (slice_index dues j) next)))

-- the overdue list is one of a turn in which nothing moves
module _ (n now k : ℕ) (dues : List ℕ) (nodes : List Node) where
  still_at : (j : ℕ) → at_midway n now now k dues j ≡ at_tick n now dues j
  still_at j = midway_still n now k (slice_index dues j)

  pub still_begins : IsPlaced n 1026 (at_tick n now dues) dues nodes → IsPlaced n 1026 (at_midway n now now k dues) dues nodes
  still_begins w = renamed n 1026 0 (at_tick n now dues) dues nodes w (at_midway n now now k dues) (λ j near there. still_at j)

  pub still_ends : IsPlaced n 1026 (at_midway n now now k dues) dues nodes → IsPlaced n 1026 (at_tick n now dues) dues nodes
  still_ends w = renamed n 1026 0 (at_midway n now now k dues) dues nodes w (at_tick n now dues) (λ j near there. sym (still_at j))

  pub still_loads : loads n (at_midway n now now k dues) dues ≡ loads n (at_tick n now dues) dues
  still_loads = loads_same n (at_tick n now dues) (at_midway n now now k dues) dues (λ j near there. still_at j)
