-- What is true of each element of a list that is made from a range.
use Rattle.std.proofs.Common.{◌≡◌, append-nil, ◌<◌, ◌≤◌, ◌+◌, ◌++◌, ℕ, zero, suc, Bool, true, false, cond, List, [], ◌∷◌, map, arith}
use Rattle.std.specs.List.{AllByRecursion, filter, flat_map, range_with_len}
use Rattle.std.proofs.lemmas.List.{map-append}
use Rattle.std.proofs.lemmas.List.Concat.{flat_map-append}
use Rattle.bfd_script.proofs.Elements.{each_more}

module _ {X : Type 0} (P : X → Type 0) where
  pub all_map : (f : ℕ → X) (a n : ℕ) → ((i : ℕ) → a ≤ i → i < a + n → P (f i)) → AllByRecursion P (map f (range_with_len a n))
  all_map f a zero h = tt
  all_map f a (suc n) h = (h a (omega arith) (omega arith), all_map f (a + 1) n (λ i low high. h i (omega arith) (omega arith)))

  one_picked : (f : ℕ → X) (b : Bool) {a : ℕ} (us : List ℕ) → P (f a) → AllByRecursion P (map f us)
      → AllByRecursion P (map f (cond b (a ∷ us) us))
  one_picked f true us h k = (h, k)
  one_picked f false us h k = k

  pub all_picked : (f : ℕ → X) (test : ℕ → Bool) (a n : ℕ) → ((i : ℕ) → a ≤ i → i < a + n → P (f i))
      → AllByRecursion P (map f (filter test (range_with_len a n)))
  all_picked f test a zero h = tt
  all_picked f test a (suc n) h = one_picked f (test a) (filter test (range_with_len (a + 1) n)) (h a (omega arith) (omega arith))
      (all_picked f test (a + 1) n (λ i low high. h i (omega arith) (omega arith)))

  pub all_gathered : (f : ℕ → List X) (a n : ℕ) → ((i : ℕ) → a ≤ i → i < a + n → AllByRecursion P (f i))
      → AllByRecursion P (flat_map f (range_with_len a n))
  all_gathered f a zero h = tt
  all_gathered f a (suc n) h = each_more P (f a) (flat_map f (range_with_len (a + 1) n)) (h a (omega arith) (omega arith))
      (all_gathered f (a + 1) n (λ i low high. h i (omega arith) (omega arith)))

range_more : (a n j : ℕ) → a + n ≡ j → range_with_len a (suc n) ≡ range_with_len a n ++ j ∷ []
range_more a zero j is = let same : a ≡ j = omega arith in cc
range_more a (suc n) j is = cc (range_more (a + 1) n j (omega arith))

-- the same with one more number of a range, where each gives an element
pub made_more : {X : Type 0} (f : ℕ → X) {n : ℕ} (m : ℕ) {j : ℕ} {before now : List X} → before ≡ map f (range_with_len 1 n)
    → now ≡ before ++ f j ∷ []
    → 1 + n ≡ j → m ≡ suc n → now ≡ map f (range_with_len 1 m)
made_more f {n} m {j} so_far added is more = cc (map-append f (range_with_len 1 n) (j ∷ []), range_more 1 n j is)

-- .. and where each gives a list
pub gathered_more : {X : Type 0} (f : ℕ → List X) {n : ℕ} (m : ℕ) {j : ℕ} {before now : List X} → before ≡ flat_map f (range_with_len 1 n)
    → now ≡ before ++ f j
    → 1 + n ≡ j → m ≡ suc n → now ≡ flat_map f (range_with_len 1 m)
gathered_more f {n} m {j} so_far added is more = cc (append-nil (f j), flat_map-append f (range_with_len 1 n) (j ∷ []), range_more 1 n j is)

-- at the end of the range
pub all_of : {Y : Type 0} (f : ℕ → List Y) {n : ℕ} (m : ℕ) {last : List Y} → last ≡ f n → n ≡ m → last ≡ f m
all_of f m so_far same = cc
