-- The places that are left to scan, place by place and block by block.
use Rattle.std.proofs.Common.{◌≡◌, ℕ, zero, suc, ◌+◌, ◌<◌, ◌≤◌, false, List, ◌∷◌, map, length, get_or, drop, nat_le, if◌then◌else◌, add-one}
use Rattle.std.proofs.Common.{add-zero, arith, drop-cons}
use Rattle.std.proofs.lemmas.Bool.Decides.{nat_tests}
use Rattle.bfd_num.specs.Due.{has_come}
use Rattle.bfd_lanes.specs.Places.{never, due_of, places}

-- a number is a due tick that has come if and only if it is at most t
pub come_of : (t d : ℕ) → t < never → has_come t (due_of d) ≡ nat_le d t
come_of t d below = grind (arith, nat_tests)

-- the places from i on are i, if it has come, and the places after it
pub due_rest : (t i : ℕ) (dues : List ℕ) → i < length dues → t < never
    → places (has_come t) i (map due_of (drop i dues)) ≡ (if nat_le (get_or dues i 0) t then i ∷ places (has_come t) (i + 1)
    (map due_of (drop (i + 1) dues)) else places (has_come t) (i + 1) (map due_of (drop (i + 1) dues)))
due_rest t i dues inside below = cc (drop-cons dues i 0 inside, add-one i, come_of t (get_or dues i 0) below)

-- where none of n places has come, the places that are left are those after them
none_rest : (n t i : ℕ) (dues : List ℕ) → i + n ≤ length dues → t < never → ((k : ℕ) → i ≤ k → k < i + n → nat_le (get_or dues k 0) t
    ≡ false) → places (has_come t) (i + n) (map due_of (drop (i + n) dues)) ≡ places (has_come t) i (map due_of (drop i dues))
none_rest zero t i dues inside below none = cc (add-zero i)
none_rest (suc n) t i dues inside below none =
    let rest = places (has_come t) (i + 1) (map due_of (drop (i + 1) dues)) in
    let shift : i + suc n ≡ (i + 1) + n = omega arith in
    cc (
      none_rest n t (i + 1) dues (omega arith) below (λ k lo hi. none k (omega arith) (omega arith)),
      due_rest t i dues (omega arith) below,
      none i (omega arith) (omega arith),
    )

pub none_in_block : (t i : ℕ) (dues : List ℕ) → i + 8 ≤ length dues → t < never → ((k : ℕ) → i ≤ k → k < i + 8 → nat_le (get_or dues k 0) t
    ≡ false) → places (has_come t) (i + 8) (map due_of (drop (i + 8) dues)) ≡ places (has_come t) i (map due_of (drop i dues))
none_in_block = none_rest 8
