-- What an advance has taken so far, and what still waits.
use Rattle.std.specs.Prelude.{◌≡◌, ◌⊎◌, ℕ, ◌+◌, ◌≤◌, List, [], ◌∷◌, ◌++◌, length, slice_index, slice_index_or, if◌then◌else◌, nat_eq}
use Rattle.std.specs.Prelude.{nat_le}
use Rattle.bfd_lanes.specs.Places.{never}

-- 1 if the two are the same, and else 0
abbrev pub bit : ℕ → ℕ → ℕ
bit x y = if nat_eq x y then 1 else 0

-- how often x is in the list
abbrev pub times : ℕ → List ℕ → ℕ
times x [] = 0
times x (y ∷ ys) = bit x y + times x ys

-- 1 if the due tick of the id x is at most t, and else 0
abbrev pub counts_due : ℕ → List ℕ → ℕ → ℕ
counts_due t dues x = if nat_le (slice_index_or dues x never) t then 1 else 0

-- how many due ticks are at most t
abbrev pub waiting : ℕ → List ℕ → ℕ
waiting t [] = 0
waiting t (d ∷ ds) = (if nat_le d t then 1 else 0) + waiting t ds

-- the appended ids are those that no longer wait, and no other due tick changed
pub record Took (t : ℕ) (dues dues2 items items2 : List ℕ) : Type 0 where
  pub taken : List ℕ
  pub appended : items2 ≡ items ++ taken
  pub each : (x : ℕ) → times x taken + counts_due t dues2 x ≡ counts_due t dues x
  pub total : length taken + waiting t dues2 ≡ waiting t dues
  pub same_or_gone : (j : ℕ) → (slice_index dues2 j ≡ slice_index dues j) ⊎ ((slice_index dues2 j ≡ never) × (slice_index dues j ≤ t))
