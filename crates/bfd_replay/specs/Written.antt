-- What a sink accepted, if that is observed.
use Rattle.std.specs.Prelude.{◌≡◌, ℕ, List, ◌++◌, Option}
use Rattle.std.specs.Io.KnownBytes.{Appends}

-- what was accepted is a prefix of the text, and this is the rest
abbrev pub TookUpTo : Option (List ℕ) → Option (List ℕ) → List ℕ → List ℕ → Type 0
TookUpTo old new text rest = (front : List ℕ) × Appends old new front × (text ≡ front ++ rest)

-- what was accepted is a prefix of the text
abbrev pub TookFront : Option (List ℕ) → Option (List ℕ) → List ℕ → Type 0
TookFront old new text = (rest : List ℕ) × TookUpTo old new text rest
