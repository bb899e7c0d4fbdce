-- Words on lists: prefixes, the longer of two, and the numbers in a list.
use Rattle.std.specs.Prelude.{◌≡◌, ℕ, Bool, false, ◌||◌, ◌==◌, nat_le, if◌then◌else◌, List, [], ◌∷◌, ◌++◌, length, filter, map}

module _ {N : Type 0} where
  -- `seen` is a prefix of `history`
  abbrev pub Begins : List N → List N → Type 0
  Begins seen history = (rest : List N) × (history ≡ seen ++ rest)

  -- the longer of two lists, and the first if neither is longer
  abbrev pub longer : List N → List N → List N
  longer xs ys = if nat_le (length ys) (length xs) then xs else ys

  -- the other one
  abbrev pub shorter : List N → List N → List N
  shorter xs ys = if nat_le (length ys) (length xs) then ys else xs

  -- the notes that name the caller n, in their order
  abbrev pub calls : (N → ℕ) → ℕ → List N → List N
  calls by n notes = filter (λ x. by x == n) notes

-- whether a number stands in a list
abbrev pub has : ℕ → List ℕ → Bool
has n [] = false
has n (m ∷ ms) = (m == n) || has n ms

-- the numbers of the passes that were joined
abbrev pub numbers_of : {N : Type 0} → List (ℕ × List N) → List ℕ
numbers_of joined = map (λ p. p.0) joined
