-- Lists of due ticks, and the places in them that have come.
use Rattle.std.specs.Prelude.{ℕ, ◌+◌, min, Bool, List, [], ◌∷◌, if◌then◌else◌, nat_eq, Option, None, Some}
use Rattle.bfd_num.specs.Due.{has_come, sooner}

-- the number that stands for no due tick
abbrev pub never : ℕ
never = 18446744073709551615

-- the due tick that a number stands for
abbrev pub due_of : ℕ → Option ℕ
due_of d = if nat_eq d never then None else Some d

-- the places of the elements that pass the test p, ascending; the first element has the place n
abbrev pub places : {A : Type 0} → (A → Bool) → ℕ → List A → List ℕ
places p n [] = []
places p n (x ∷ xs) = if p x then n ∷ places p (n + 1) xs else places p (n + 1) xs

-- the places whose due tick has come at the tick t
abbrev pub come : ℕ → List (Option ℕ) → List ℕ
come t dues = places (has_come t) 0 dues

-- the least due tick
abbrev pub least : List (Option ℕ) → Option ℕ
least [] = None
least (d ∷ ds) = sooner d (least ds)

-- a due tick after the tick t: none, if it has come
abbrev pub without : ℕ → Option ℕ → Option ℕ
without t d = if has_come t d then None else d

-- the lowest number; never is above each that stands for a due tick
abbrev pub lowest : List ℕ → ℕ
lowest [] = never
lowest (d ∷ ds) = min d (lowest ds)
