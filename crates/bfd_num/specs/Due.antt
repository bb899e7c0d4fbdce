-- Optional due ticks, with none as never: the words that sessions and their timers share.
use Rattle.std.specs.Prelude.{ℕ, Bool, false, min, nat_le, Option, None, Some}

-- a due tick has come at the tick t: it is present, and at most t
abbrev pub has_come : ℕ → Option ℕ → Bool
has_come t None = false
has_come t (Some d) = nat_le d t

-- the sooner of two due ticks
abbrev pub sooner : Option ℕ → Option ℕ → Option ℕ
sooner None e = e
sooner (Some d) None = Some d
sooner (Some d) (Some e) = Some (min d e)
