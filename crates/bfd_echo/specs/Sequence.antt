-- The sequence numbers of echo packets, which wrap after 2 ^ 32 - 1. They show that a packet is missing; RFC 5880
-- section 6.8.8 leaves the means open.
use Rattle.std.specs.Prelude.{ℕ, ◌+◌, ◌-◌, ◌%◌, ◌^◌, Bool, nat_lt}
use Rattle.bfd_echo.specs.declared.echo.Echo.{Echo}

-- the number after this one
abbrev pub next_sequence : ℕ → ℕ
next_sequence s = (s + 1) % 2 ^ 32

-- how many numbers after this one the number s is
abbrev pub steps_to : ℕ → ℕ → ℕ
steps_to from s = (s + (2 ^ 32 - from)) % 2 ^ 32

-- the number was sent, and neither it nor a later one came back: it comes before the next one, counted from the first
-- that is awaited
abbrev pub is_outstanding : Echo → ℕ → Bool
is_outstanding e s = nat_lt (steps_to e.back s) (steps_to e.back e.next)
