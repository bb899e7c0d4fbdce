-- The lists of the levels: where a due tick stands, which lists a tick reaches, and what stands where on the way.
use Rattle.std.specs.Prelude.{◌≡◌, ℕ, zero, suc, ◌+◌, ◌-◌, ◌*◌, ◌/◌, ◌%◌, ◌^◌, ◌<◌, List, length, if◌then◌else◌, nat_le, nat_lt, nat_eq}
use Rattle.bfd_lanes.specs.Places.{never, lowest}
use Rattle.bfd_wheel.specs.declared.links.Node.{Node}
use Rattle.bfd_wheel.specs.Taken.{bit}
use Rattle.bfd_wheel.specs.Wheel.{due_in}
use Rattle.bfd_levels.specs.Height.{height}
use Rattle.bfd_levels.specs.Rings.{IsPlaced}

-- the list of a tick at a level, behind n ids: at levels 0 to 3 the slot of the tick's own digit; 4 is the overflow
-- list and 5 the overdue list
unfoldable pub slot : ℕ → ℕ → ℕ → ℕ
slot n tick level = if nat_lt level 4 then n + (256 * level + tick / 2 ^ (8 * level) % 256) else n + (1020 + level)

-- the list of a due tick: the overdue list up to now, and above it that of its own digit at its height
unfoldable pub place : ℕ → ℕ → ℕ → ℕ
place n now due = if nat_le due now then slot n due 5 else slot n due (height due now)

-- how many levels a node on this list may still go down
unfoldable pub level_of : ℕ → ℕ → ℕ
level_of n head = if nat_eq head (n + 1025) then 0 else (head - n) / 256

-- how many lists the clock reaches with a tick: that of level 0, and one more for each digit that carries
abbrev pub reach : ℕ → ℕ
reach tick = 1 + bit (tick % 256) 0 + bit (tick % 256 ^ 2) 0 + bit (tick % 256 ^ 3) 0 + bit (tick % 256 ^ 4) 0

-- the list of a due tick while the clock goes from `before` to `tick`, when the lists of the first k levels were moved
unfoldable pub midway : ℕ → ℕ → ℕ → ℕ → ℕ → ℕ
midway n before tick zero due = place n before due
midway n before tick (suc k) due =
    if nat_eq (midway n before tick k due) (slot n tick k) then place n tick due else midway n before tick k due

-- the same for the ids, by their due ticks: between two ticks, during a tick, and in a jump that has moved the ids below id
abbrev pub at_tick : ℕ → ℕ → List ℕ → ℕ → ℕ
at_tick n now dues = λ j. place n now (due_in dues j)

abbrev pub at_midway : ℕ → ℕ → ℕ → ℕ → List ℕ → ℕ → ℕ
at_midway n before tick k dues = λ j. midway n before tick k (due_in dues j)

abbrev pub at_jump : ℕ → ℕ → ℕ → ℕ → List ℕ → ℕ → ℕ
at_jump n now t id dues = λ j. if nat_lt j id then place n t (due_in dues j) else place n now (due_in dues j)

-- the weight of an id: nothing without a due tick, and else by the level of its list
unfoldable pub load : ℕ → (ℕ → ℕ) → List ℕ → ℕ → ℕ
load n at dues j = if nat_eq (due_in dues j) never then 0 else 2 * level_of n (at j) + 1

-- the sum of f over the numbers below n
unfoldable pub total : (ℕ → ℕ) → ℕ → ℕ
total f zero = 0
total f (suc n) = f n + total f n

-- the weight of all ids
abbrev pub loads : ℕ → (ℕ → ℕ) → List ℕ → ℕ
loads n at dues = total (load n at dues) n

-- the wheel between calls
pub record IsLevels (n now : ℕ) (dues : List ℕ) (nodes : List Node) : Type 0 where
  pub early : now < 2 ^ 60
  pub placed : IsPlaced n 1026 (at_tick n now dues) dues nodes

-- the same with the lowest due tick, as a number
pub record KnowsLeast (now soonest : ℕ) (dues : List ℕ) (nodes : List Node) : Type 0 where
  pub levels : IsLevels (length dues) now dues nodes
  pub least : soonest ≡ lowest dues
