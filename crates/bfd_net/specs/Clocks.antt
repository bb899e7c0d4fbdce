-- The time between two readings of the machine's clock.
use Rattle.std.specs.Prelude.{◌≡◌, ℕ, ◌-◌, ◌/◌, Option, Some}
use Rattle.std.specs.declared.time.Instant.{Instant}
use Rattle.std.specs.Time.{instant_nanos}

-- the nanoseconds from one reading to a later one
abbrev pub nanos_between : Instant → Instant → ℕ
nanos_between made read = instant_nanos read - instant_nanos made

-- .. the whole microseconds
abbrev pub micros_between : Instant → Instant → ℕ
micros_between made read = nanos_between made read / 1000

-- .. the whole milliseconds
abbrev pub millis_between : Instant → Instant → ℕ
millis_between made read = nanos_between made read / 1000000

-- the microseconds from the reading at which something was made to another one
pub record IsSince (made : Option Instant) (moment : ℕ) : Type 0 where
  pub start : Instant
  pub read : Instant
  pub start_is : made ≡ Some start
  pub moment_is : moment ≡ micros_between start read

-- .. the milliseconds
pub record IsTickSince (made : Option Instant) (tick : ℕ) : Type 0 where
  pub start : Instant
  pub read : Instant
  pub start_is : made ≡ Some start
  pub tick_is : tick ≡ millis_between start read
