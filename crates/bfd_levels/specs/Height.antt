-- How far ahead a due tick lies, in digits of base 256, and the potential that this gives.
use Rattle.std.specs.Prelude.{ℕ, ◌+◌, ◌*◌, ◌/◌, ◌^◌, List, [], ◌∷◌, Option, None, Some, if◌then◌else◌, nat_le, nat_eq}

-- 0 if the due tick d is at most the tick n; else the place, from 0, of the highest digit in base 256 in which
-- they differ, or 4 if that place is 4 or more
abbrev pub height : ℕ → ℕ → ℕ
height d n =
    if nat_le d n then 0
    else if nat_eq (d / 256) (n / 256) then 0
    else if nat_eq (d / 256 ^ 2) (n / 256 ^ 2) then 1
    else if nat_eq (d / 256 ^ 3) (n / 256 ^ 3) then 2
    else if nat_eq (d / 256 ^ 4) (n / 256 ^ 4) then 3
    else 4

-- the weight of an optional due tick at the tick n: two for each level that it may still go down, and one for taking it
abbrev pub weight : ℕ → Option ℕ → ℕ
weight n None = 0
weight n (Some d) = 2 * height d n + 1

-- the potential of a list of optional due ticks at the tick n
abbrev pub potential : ℕ → List (Option ℕ) → ℕ
potential n [] = 0
potential n (d ∷ ds) = weight n d + potential n ds

-- a wheel of levels as its callers see it: the greatest tick so far, and the due ticks
pub record Clocked : Type 0 where
  pub clock : ℕ
  pub dues : List (Option ℕ)

-- its potential at its own clock
abbrev pub potential_of : Clocked → ℕ
potential_of w = potential w.clock w.dues
