-- Moments, ticks and the drawing of jitter, as the contracts speak of them.
use Rattle.std.specs.Prelude.{ℕ, ◌+◌, ◌*◌, ◌/◌, ◌%◌, ◌^◌, ◌≤◌}

-- a moment is a count of microseconds below this
abbrev pub moment_bound : ℕ
moment_bound = 2 ^ 60

-- the greatest tick: that of the greatest moment
abbrev pub greatest_tick : ℕ
greatest_tick = 1152921504606846

-- the tick that is running at the moment m: whole milliseconds, rounded down
unfoldable pub floor_tick : ℕ → ℕ
floor_tick m = m / 1000

-- the first tick at which the moment m has come: milliseconds, rounded up
unfoldable pub ceil_tick : ℕ → ℕ
ceil_tick m = (m + 999) / 1000

-- t is the least tick whose moment is at least m
pub record IsLeastTickFrom (m t : ℕ) : Type 0 where
  pub reaches : m ≤ 1000 * t
  pub least : (u : ℕ) → m ≤ 1000 * u → t ≤ u

-- the draw that follows j; the jitter of periodic packets is computed from the draws (RFC 5880 section 6.8.7)
unfoldable pub next_j : ℕ → ℕ
next_j j = (1664525 * j + 1013904223) % 2 ^ 32
