-- Lists of nodes, each doubly linked in a ring through its head: the ids come first, then the heads.
use Rattle.std.specs.Prelude.{◌≡◌, ◌≢◌, ℕ, ◌<◌, ◌≤◌}
use Rattle.bfd_lanes.specs.Places.{never}

-- the node j is on a list: an id with a due tick, or a head
pub record IsOn (all : ℕ) (due : ℕ → ℕ) (j : ℕ) : Type 0 where
  pub below : j < all
  pub there : due j ≢ never

-- the links of n ids and of the heads behind them, all nodes in all; home names the list's head of each node, and
-- rank, which no field keeps, falls along each list, down to 0 at its head
pub record IsRing (n all : ℕ) (due home next prev rank : ℕ → ℕ) : Type 0 where
  pub next_on : (j : ℕ) → IsOn all due j → IsOn all due (next j)
  pub prev_on : (j : ℕ) → IsOn all due j → IsOn all due (prev j)
  pub next_home : (j : ℕ) → IsOn all due j → home (next j) ≡ home j
  pub prev_home : (j : ℕ) → IsOn all due j → home (prev j) ≡ home j
  pub back : (j : ℕ) → IsOn all due j → prev (next j) ≡ j
  pub forth : (j : ℕ) → IsOn all due j → next (prev j) ≡ j
  pub head_home : (j : ℕ) → n ≤ j → home j ≡ j
  pub head_rank : (j : ℕ) → n ≤ j → rank j ≡ 0
  pub id_rank : (j : ℕ) → j < n → 0 < rank j
  pub falls : (j : ℕ) → j < n → IsOn all due j → rank (next j) < rank j
  pub one : (j k : ℕ) → rank j ≡ rank k → j < n → j ≡ k
  pub no_gap : (c j : ℕ) → IsOn all due c → IsOn all due j → home j ≡ home c → (c < n → rank j < rank c) → rank j ≤ rank (next c)

-- the same with some rank, of which top is a bound
pub record IsRanked (n all : ℕ) (due home next prev : ℕ → ℕ) : Type 0 where
  pub rank : ℕ → ℕ
  pub top : ℕ
  pub below : (j : ℕ) → rank j < top
  pub ring : IsRing n all due home next prev rank

-- the neighbours of the node i are linked to each other, and nothing else changes
pub record Unlinks (i : ℕ) (next prev next2 prev2 : ℕ → ℕ) : Type 0 where
  pub next_prev : next2 (prev i) ≡ next i
  pub prev_next : prev2 (next i) ≡ prev i
  pub next_same : (j : ℕ) → j ≢ prev i → next2 j ≡ next j
  pub prev_same : (j : ℕ) → j ≢ next i → prev2 j ≡ prev j

-- the node i stands between the head h and what was first behind it, and nothing else changes
pub record Links (i h : ℕ) (next prev next2 prev2 : ℕ → ℕ) : Type 0 where
  pub next_own : next2 i ≡ next h
  pub prev_own : prev2 i ≡ h
  pub next_head : next2 h ≡ i
  pub prev_first : prev2 (next h) ≡ i
  pub next_same : (j : ℕ) → j ≢ i → j ≢ h → next2 j ≡ next j
  pub prev_same : (j : ℕ) → j ≢ i → j ≢ next h → prev2 j ≡ prev j
