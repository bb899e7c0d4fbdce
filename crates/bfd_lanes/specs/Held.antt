-- What contracts see of `Ids`.
use Rattle.std.specs.Prelude.{ℕ, ◌+◌, ◌≤◌, List, length}

-- the ids in their order, and how many more fit
pub record HeldIds : Type 0 where
  pub items : List ℕ
  pub spare : ℕ

-- how many ids fit in all
abbrev pub room_of : HeldIds → ℕ
room_of h = length h.items + h.spare

-- what is held fits the room, and the memory for the room is allocated
pub record IsReserved (count room capacity : ℕ) : Type 0 where
  pub fits : count ≤ room
  pub taken : room ≤ capacity
