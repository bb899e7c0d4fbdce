-- A prefix of bytes is bytes.
use Rattle.bfd_script.proofs.FieldsCommon.{ℕ, List, [], ◌∷◌, take, arith, suc, zero, IsBytes}

pub bytes_front : (m : ℕ) (xs : List ℕ) → IsBytes xs → IsBytes (take m xs)
bytes_front zero xs h i = omega arith
bytes_front (suc m) [] h i = h i
bytes_front (suc m) (x ∷ xs) h zero = h zero
bytes_front (suc m) (x ∷ xs) h (suc i) = bytes_front m xs (λ j. h (suc j)) i
