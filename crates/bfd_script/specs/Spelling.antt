-- How fields and bytes are spelled.
use Rattle.std.specs.Prelude.{ℕ, List, [], ◌∷◌, ◌++◌, codes}
use Rattle.hex.specs.Hex.{encode_lower}

-- fields with a space between each two, and what stands behind the last
abbrev pub spaced : List (List ℕ) → List ℕ → List ℕ
spaced [] end = end
spaced (field ∷ []) end = field ++ end
spaced (field ∷ next ∷ fields) end = field ++ (32 ∷ spaced (next ∷ fields) end)

-- a line of these fields: it ends with LF
abbrev pub line : List (List ℕ) → List ℕ
line fields = spaced fields (10 ∷ [])

-- bytes as hexadecimal digits in lower case, or `-` if there are none
abbrev pub hex_field : List ℕ → List ℕ
hex_field [] = codes "-"
hex_field (byte ∷ bytes) = encode_lower (byte ∷ bytes)
