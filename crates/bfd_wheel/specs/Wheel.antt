-- The hashed wheel: on which list a node stands, and what its lists keep.
use Rattle.std.specs.Prelude.{◌≡◌, ◌≢◌, ℕ, zero, suc, ◌+◌, ◌%◌, ◌^◌, ◌<◌, ◌≤◌, List, [], ◌∷◌, length, slice_index, slice_index_or}
use Rattle.std.specs.Prelude.{if◌then◌else◌, nat_le}
use Rattle.std.specs.Prelude.{nat_lt}
use Rattle.bfd_lanes.specs.Places.{never}
use Rattle.bfd_wheel.specs.declared.links.Node.{Node}
use Rattle.bfd_wheel.specs.Rings.{IsRanked}

-- the due tick of the node j as a number, and 0 for a head
abbrev pub due_in : List ℕ → ℕ → ℕ
due_in dues j = slice_index dues j

-- the node after j, and the node before it
unfoldable pub next_in : List Node → ℕ → ℕ
next_in nodes j = (slice_index_or nodes j (record { next = 0; prev = 0 })).next

unfoldable pub prev_in : List Node → ℕ → ℕ
prev_in nodes j = (slice_index_or nodes j (record { next = 0; prev = 0 })).prev

-- the head of the list for a due tick: one of the 4,096 slots behind the n ids, or the overdue list behind the slots
abbrev pub place : ℕ → ℕ → ℕ → ℕ
place n now due = if nat_le due now then n + 4096 else n + due % 4096

-- the head of the list of the node j: the place of its due tick, and for a head itself
unfoldable pub home : ℕ → ℕ → (ℕ → ℕ) → ℕ → ℕ
home n now due j = if nat_lt j n then place n now (due j) else j

-- the due ticks of the first k ids, and none for the others
unfoldable pub first_dues : List ℕ → ℕ → List ℕ
first_dues [] k = []
first_dues (d ∷ ds) zero = never ∷ first_dues ds zero
first_dues (d ∷ ds) (suc k) = d ∷ first_dues ds k

-- every id with a due tick stands on the one list that its due tick and now name; an id with none is on no list
pub record IsWheel (n now : ℕ) (dues : List ℕ) (nodes : List Node) : Type 0 where
  pub few : n ≤ 65536
  pub early : now < 2 ^ 60
  pub count : length dues ≡ n
  pub size : length nodes ≡ n + 4097
  pub links : IsRanked n (n + 4097) (due_in dues) (home n now (due_in dues)) (next_in nodes) (prev_in nodes)

-- the id has a due tick, and its neighbours are nodes
pub record IsLinked (id : ℕ) (dues : List ℕ) (nodes : List Node) : Type 0 where
  pub inside : id < length dues
  pub node : id < length nodes
  pub due : slice_index dues id ≢ never
  pub next : next_in nodes id < length nodes
  pub prev : prev_in nodes id < length nodes
