-- Lists whose elements move from one to another.
use Rattle.bfd_serve.proofs.Common.{◌≡◌, ◌<◌, ◌++◌, length, get_or, append_assoc, arith, remove, List, [], ◌∷◌}

module _ {X : Type 0} where
  -- the first of the rest goes behind those before it
  pub first_over : (xs ys : List X) {all : List X} (d : X) {y : X} → 0 < length ys → get_or ys 0 d ≡ y → xs ++ ys ≡ all
      → (xs ++ y ∷ []) ++ remove ys 0 ≡ all
  first_over xs [] d some is e = absurd (omega arith)
  first_over xs (z ∷ ys) d {y} some is e = cc (append_assoc xs (y ∷ []) ys)
