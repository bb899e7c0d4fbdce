-- Lists of calls on a wheel of levels, and the steps that they may need.
use Rattle.std.specs.Prelude.{ℕ, ◌+◌, ◌-◌, ◌*◌, ◌<◌, ◌≤◌, max, List, [], ◌∷◌, map, None, Some, slice_set}
use Rattle.bfd_lanes.specs.Places.{without}
use Rattle.bfd_levels.specs.Height.{Clocked, potential_of}

-- a call that changes the wheel
pub data WheelCall : Type 0 where
  Set : ℕ → ℕ → WheelCall
  Clear : ℕ → WheelCall
  Advance : ℕ → WheelCall

-- the wheel after a call
abbrev pub wheel_after : WheelCall → Clocked → Clocked
wheel_after (Set id due) w = record { clock = w.clock; dues = slice_set w.dues id (Some due) }
wheel_after (Clear id) w = record { clock = w.clock; dues = slice_set w.dues id None }
wheel_after (Advance t) w = record { clock = max w.clock t; dues = map (without t) w.dues }

-- a call with its number of steps
pub record Made : Type 0 where
  pub call : WheelCall
  pub steps : ℕ

-- the steps are no more than the contract of the call allows on the wheel
abbrev pub KeepsSteps : Clocked → ℕ → WheelCall → Type 0
KeepsSteps w steps (Set id due) = steps ≤ 2
KeepsSteps w steps (Clear id) = steps ≤ 1
KeepsSteps w steps (Advance t) =
    (w.clock ≤ t → steps ≤ potential_of w - potential_of (wheel_after (Advance t) w) + 2 * (t - w.clock) + 5)
    × (t < w.clock → steps ≤ potential_of w - potential_of (wheel_after (Advance t) w) + 1)

-- each call of the list keeps its contract, the first on the wheel w
abbrev pub KeepsAll : Clocked → List Made → Type 0
KeepsAll w [] = Unit {0}
KeepsAll w (m ∷ ms) = KeepsSteps w m.steps m.call × KeepsAll (wheel_after m.call w) ms

-- the wheel after all calls
abbrev pub after_all : List Made → Clocked → Clocked
after_all [] w = w
after_all (m ∷ ms) w = after_all ms (wheel_after m.call w)

-- the steps of all calls
abbrev pub steps_of : List Made → ℕ
steps_of [] = 0
steps_of (m ∷ ms) = m.steps + steps_of ms

-- the steps that a call may need in the long run, apart from the ticks that the clock goes forward
abbrev pub call_share : WheelCall → ℕ
call_share (Set id due) = 11
call_share (Clear id) = 1
call_share (Advance t) = 5

abbrev pub shares : List Made → ℕ
shares [] = 0
shares (m ∷ ms) = call_share m.call + shares ms
