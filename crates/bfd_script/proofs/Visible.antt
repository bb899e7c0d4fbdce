-- The bytes that a field may have.
use Rattle.bfd_script.proofs.FieldsCommon.{◌≡◌, ℕ, Bool, true, ◌&&◌, List, [], ◌∷◌, arith, nat_lt, nat_tests, list_all, and_parts}
use Rattle.bfd_script.specs.Windows.{IsVisible, IsField}

-- the same as a test, which computes on a word
abbrev pub is_visible : ℕ → Bool
is_visible b = nat_lt 32 b && nat_lt b 127

pub seen : (b : ℕ) → is_visible b ≡ true → IsVisible b
seen b h = grind (arith, nat_tests)

-- a word of visible bytes, by computing
pub word : (w : List ℕ) → list_all is_visible w ≡ true → IsField w
word [] h = tt
word (b ∷ w) h = let e = and_parts (is_visible b) (list_all is_visible w) h in (seen b e.0, word w e.1)
