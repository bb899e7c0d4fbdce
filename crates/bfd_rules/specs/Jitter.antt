-- When the next periodic packet is due (RFC 5880 section 6.8.7): the interval less up to a quarter, and with
-- Detect Mult 1 no later than nine tenths of it.
use Rattle.std.specs.Prelude.{ℕ, ◌+◌, ◌-◌, ◌*◌, ◌/◌, ◌%◌, ◌==◌, if◌then◌else◌}
use Rattle.bfd_num.specs.Numbers.{floor_tick, ceil_tick}

-- the first tick that is at least three quarters of the interval after the base
abbrev pub earliest : ℕ → ℕ → ℕ
earliest base interval = ceil_tick (base + (3 * interval + 3) / 4)

-- the last tick that is at most the interval after the base, or with Detect Mult 1 nine tenths of it
abbrev pub latest : ℕ → ℕ → ℕ → ℕ
latest base interval mult = floor_tick (base + (if mult == 1 then 9 * interval / 10 else interval))

-- the tick between the two that the draw j picks
unfoldable pub pick : ℕ → ℕ → ℕ → ℕ → ℕ
pick base interval mult j = earliest base interval + j % (latest base interval mult - earliest base interval + 1)
