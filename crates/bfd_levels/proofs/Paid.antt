-- Rings, and the steps so far with what the ids still weigh.
use Rattle.bfd_levels.proofs.Common.{◌≡◌, ◌≢◌, ℕ, ◌+◌, ◌<◌, ◌≤◌, List, arith, slice_index, never, Node, loads, IsPlaced}
use Rattle.bfd_levels.proofs.Placing.{renamed}
use Rattle.bfd_levels.proofs.Loads.{loads_same}

-- s steps were made, and with what the ids still weigh they are at most bound
pub record IsPaid (n s bound : ℕ) (at : ℕ → ℕ) (dues : List ℕ) (nodes : List Node) : Type 0 where
  pub placed : IsPlaced n 1026 at dues nodes
  pub cost : s + loads n at dues ≤ bound

-- the lists get other names
pub paid_renamed : (n s bound : ℕ) (at at2 : ℕ → ℕ) (dues : List ℕ) (nodes : List Node) → IsPaid n s bound at dues nodes
    → ((j : ℕ) → j < n → slice_index dues j ≢ never → at2 j ≡ at j) → IsPaid n s bound at2 dues nodes
paid_renamed n s bound at at2 dues nodes p same = record {
  placed = renamed n 1026 0 at dues nodes p.placed at2 same;
  cost = omega (arith, loads_same n at at2 dues same, p.cost);
}

paid_by : (n s s2 bound bound2 extra : ℕ) (at at2 : ℕ → ℕ) (dues dues2 : List ℕ) (nodes nodes2 : List Node) → IsPaid n s bound at dues nodes
    → IsPlaced n 1026 at2 dues2 nodes2 → s2 + loads n at2 dues2 ≤ s + extra + loads n at dues → bound + extra ≤ bound2
    → IsPaid n s2 bound2 at2 dues2 nodes2
paid_by n s s2 bound bound2 extra at at2 dues dues2 nodes nodes2 p w cost more = record { placed = w; cost = omega arith }

-- the same after a call that was made with k ids, which are n
pub paid_more : (n k s s2 bound bound2 extra : ℕ) (at at2 : ℕ → ℕ → ℕ) (dues dues2 : List ℕ) (nodes nodes2 : List Node) → k ≡ n
    → IsPaid n s bound (at n) dues nodes
    → IsPlaced k 1026 (at2 k) dues2 nodes2 → s2 + loads k (at2 k) dues2 ≤ s + extra + loads k (at k) dues → bound + extra ≤ bound2
    → IsPaid n s2 bound2 (at2 n) dues2 nodes2
paid_more n k s s2 bound bound2 extra at at2 dues dues2 nodes nodes2 same p w cost more =
    rw (← same) (paid_by k s s2 bound bound2 extra (at k) (at2 k) dues dues2 nodes nodes2 (rw same p) w cost more)
