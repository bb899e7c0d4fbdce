-- What a binary search of an ascending pool finds is the reflector with the discriminator.
use Rattle.bfd_sbfd.proofs.Common.{◌≡◌, ◌<◌, ◌≤◌, ◌==◌, ℕ, zero, suc, false, List, [], ◌∷◌, length, get_or, refl, sym, ap, arith, inl, inr}
use Rattle.bfd_sbfd.proofs.Common.{None, Some, Ok, Err, find, AllByRecursion, nat_tests, Reflector}
use Rattle.std.proofs.Math.Nat.{eq-or-lt_of_le}
use Rattle.std.proofs.lemmas.Cmp.{ranked}
use Rattle.std.specs.List.Sorted.{IsSearchInRange, IsBinarySearchResult, IsNonDecreasingBy}
use Rattle.std.specs.Ordering.{nat_cmp, ordering_index}
use Rattle.std.proofs.lemmas.Bool.{ne_eqb, eq-eqb}
use Rattle.bfd_sbfd.specs.Reflect.{Ascends, named_in}

-- what is true of each reflector is true of the one at a place
each_at : (P : Reflector → Type 0) (xs : List Reflector) (k : ℕ) (d : Reflector) → AllByRecursion P xs → k < length xs → P (get_or xs k d)
each_at P [] k d h within = absurd (omega arith)
each_at P (x ∷ xs) zero d h within = h.0
each_at P (x ∷ xs) (suc k) d h within = each_at P xs k d h.1 (omega arith)

-- the discriminators ascend from place to place
ascend : (xs : List Reflector) (i j : ℕ) (d : Reflector) → Ascends xs → i < j → j < length xs
    → (get_or xs i d).discr < (get_or xs j d).discr
ascend [] i j d up before within = absurd (omega arith)
ascend (x ∷ xs) i zero d up before within = absurd (omega arith)
ascend (x ∷ xs) zero (suc j) d up before within = each_at (λ later. x.discr < later.discr) xs j d up.0 (omega arith)
ascend (x ∷ xs) (suc i) (suc j) d up before within = ascend xs i j d up.1 (omega arith) (omega arith)

-- a lower number is no higher to a discriminator
pub no_lower : (a b discr : ℕ) → a ≤ b → ordering_index (nat_cmp a discr) ≤ ordering_index (nat_cmp b discr)
no_lower a b discr le = grind (arith, nat_tests)

-- so the comparisons with a discriminator rise, as a binary search asks
rise : (xs : List Reflector) (discr : ℕ) → Ascends xs → IsNonDecreasingBy (λ (r : Reflector). ordering_index (nat_cmp r.discr discr)) xs
rise xs discr up i j d le within = elim (eq-or-lt_of_le le) [
  | inl same ↦ no_lower _ _ discr (omega (arith, ap (λ k. (get_or xs k d).discr) same))
  | inr before ↦ no_lower _ _ discr (omega (arith, ascend xs i j d up before within))
]

-- the first that has the discriminator, where a place has it and each before it another
first_found : (xs : List Reflector) (discr at : ℕ) (d : Reflector) → at < length xs → ((k : ℕ) → k < at → (get_or xs k d).discr ≡ discr → ⊥)
    → (get_or xs at d).discr ≡ discr → find (λ (r : Reflector). r.discr == discr) xs ≡ Some (get_or xs at d)
first_found [] discr at d within other same = absurd (omega arith)
first_found (x ∷ xs) discr zero d within other same = rw (eq-eqb x.discr discr same) refl
first_found (x ∷ xs) discr (suc at) d within other same = rw (ne_eqb x.discr discr (other 0 (omega arith)))
    (first_found xs discr at d (omega arith) (λ k lt. other (suc k) (omega arith)) same)

-- none, where each has another
none_found : (xs : List Reflector) (discr : ℕ) (d : Reflector)
    → ((k : ℕ) → k < length xs → (get_or xs k d).discr ≡ discr → ⊥) → find (λ (r : Reflector). r.discr == discr) xs ≡ None
none_found [] discr d other = refl
none_found (x ∷ xs) discr d other = rw (ne_eqb x.discr discr (other 0 (omega arith)))
    (none_found xs discr d (λ k lt. other (suc k) (omega arith)))

lower : {a : ℕ} (discr : ℕ) → a < discr → a ≡ discr → ⊥
lower discr less same = grind arith

-- lower before a place and higher from it on: another
pub differs : (a discr at k : ℕ) → (k < at → a < discr) → (at ≤ k → discr < a) → a ≡ discr → ⊥
differs a discr at k below above same = grind arith

found : (xs : List Reflector) (discr at : ℕ) (d : Reflector) → Ascends xs → IsSearchInRange (Ok at) (length xs)
    → IsBinarySearchResult (λ (r : Reflector). nat_cmp r.discr discr) xs (Ok at)
    → find (λ (r : Reflector). r.discr == discr) xs ≡ Some (get_or xs at d)
found xs discr at d up within equal =
    let same = ranked _ discr _ (sym (equal d)) in
    first_found xs discr at d within (λ k lt. lower discr (omega (arith, ascend xs k at d up lt within, same))) same

missing : (xs : List Reflector) (discr at : ℕ) (d : Reflector) → Ascends xs → IsSearchInRange (Err at) (length xs)
    → IsBinarySearchResult (λ (r : Reflector). nat_cmp r.discr discr) xs (Err at) → find (λ (r : Reflector). r.discr == discr) xs ≡ None
missing xs discr at d up within parted =
    let sides = parted (rise xs discr up) in
    none_found xs discr d (λ k lt. differs _ discr at k (λ before. ranked _ discr _ (sym (sides.0 k d (omega arith) before)))
    (λ after. ranked _ discr _ (sym (sides.1 k d after lt))))

-- where Your Discriminator isn't 0, what the search says is what it names

pub named_found : (xs : List Reflector) (discr at : ℕ) (d : Reflector) → (discr ≡ 0 → ⊥) → Ascends xs → IsSearchInRange (Ok at) (length xs)
    → IsBinarySearchResult (λ (r : Reflector). nat_cmp r.discr discr) xs (Ok at) → Some (get_or xs at d) ≡ named_in xs discr
named_found xs discr at d some up within equal = rw (ne_eqb discr 0 some) (sym (found xs discr at d up within equal))

pub named_missing : (xs : List Reflector) (discr at : ℕ) → (discr ≡ 0 → ⊥) → Ascends xs → IsSearchInRange (Err at) (length xs)
    → IsBinarySearchResult (λ (r : Reflector). nat_cmp r.discr discr) xs (Err at) → None ≡ named_in xs discr
named_missing xs discr at some up within parted =
    rw (ne_eqb discr 0 some) (sym (missing xs discr at (record { discr = 0; rx = 0; up = false }) up within parted))
