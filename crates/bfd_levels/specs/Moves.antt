-- A node that is moved to another list, and what a visit of a node does.
use Rattle.std.specs.Prelude.{◌≡◌, ◌≢◌, ◌⊎◌, ℕ, ◌+◌, ◌<◌, ◌≤◌, List, length, slice_index, slice_set}
use Rattle.bfd_lanes.specs.Places.{never}
use Rattle.bfd_wheel.specs.declared.links.Node.{Node}
use Rattle.bfd_wheel.specs.Rings.{Unlinks, Links}
use Rattle.bfd_wheel.specs.Wheel.{next_in, prev_in, IsLinked}
use Rattle.bfd_levels.specs.Lists.{place, level_of}

-- the node i leaves its list, and then comes first behind the head h
pub record Relinks (i h : ℕ) (next prev next2 prev2 : ℕ → ℕ) : Type 0 where
  pub next1 : ℕ → ℕ
  pub prev1 : ℕ → ℕ
  pub out : Unlinks i next prev next1 prev1
  pub into : Links i h next1 prev1 next2 prev2

-- the id has a due tick, and its node may be put behind any of m heads
pub record CanMove (id m : ℕ) (dues : List ℕ) (nodes : List Node) : Type 0 where
  pub few : length dues ≤ 65536
  pub size : length nodes ≡ length dues + m
  pub linked : IsLinked id dues nodes
  pub alone : next_in nodes id ≢ id
  pub first : (h : ℕ) → length dues ≤ h → h < length dues + m → next_in nodes h < length nodes
  pub behind : (h : ℕ) → length dues ≤ h → h < length dues + m → h ≢ prev_in nodes id → next_in nodes h ≢ id

-- a visit of the id on the list of head in s2 - s steps: what has come by t is taken, in one; what belongs to another
-- list at the tick is moved there, in two; and what belongs here stays, in none
pub data Visit (n tick head id t : ℕ) (dues dues2 : List ℕ) (nodes nodes2 : List Node) (s s2 : ℕ) : Type 0 where
  takes : slice_index dues id ≤ t → dues2 ≡ slice_set dues id never
      → Unlinks id (next_in nodes) (prev_in nodes) (next_in nodes2) (prev_in nodes2) → s2 ≡ s + 1
      → Visit n tick head id t dues dues2 nodes nodes2 s s2
  moves : t < slice_index dues id → dues2 ≡ dues → place n tick (slice_index dues id) ≢ head
      → Relinks id (place n tick (slice_index dues id)) (next_in nodes) (prev_in nodes) (next_in nodes2) (prev_in nodes2)
      → s2 ≡ s + 2 → Visit n tick head id t dues dues2 nodes nodes2 s s2
  stays : t < slice_index dues id → dues2 ≡ dues → nodes2 ≡ nodes → place n tick (slice_index dues id) ≡ head
      → s2 ≡ s → Visit n tick head id t dues dues2 nodes nodes2 s s2

-- at the tick a due tick belongs where it stands, or on a lower level
unfoldable pub GoesDown : ℕ → ℕ → ℕ → ℕ → Type 0
GoesDown n tick due head = (place n tick due ≡ head) ⊎ (level_of n (place n tick due) < level_of n head)
