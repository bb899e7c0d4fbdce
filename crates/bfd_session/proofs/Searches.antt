-- What a binary search of sessions finds is the place of the session with the discriminator.
use Rattle.bfd_session.proofs.Common.{◌≡◌, ◌<◌, ◌==◌, ◌∙◌, ℕ, zero, suc, List, [], ◌∷◌, length, map, get_or, refl, sym, ap, arith, Option}
use Rattle.bfd_session.proofs.Common.{inl, inr, None, Some, Result, Ok, Err, eq-eqb, ne_eqb, nat_tests, position_or_len, AllByRecursion}
use Rattle.bfd_session.proofs.Common.{position, SessionConfig, discr_of, Ascends}
use Rattle.std.proofs.Math.Nat.{eq-or-lt_of_le}
use Rattle.std.proofs.lemmas.Cmp.{ranked}
use Rattle.std.proofs.lemmas.List.{length-map}
use Rattle.std.proofs.lemmas.List.Sums.{position_or_len_is}
use Rattle.std.specs.List.Sorted.{IsSearchInRange, IsBinarySearchResult, IsNonDecreasingBy}
use Rattle.std.specs.Ordering.{nat_cmp, ordering_index}
use Rattle.std.specs.Result.{result_ok}
use Rattle.bfd_sbfd.proofs.Searching.{no_lower, differs}
use Rattle.bfd_session.specs.Rows.{place_of}

module _ {X : Type 0} (config : X → SessionConfig) where
  -- what is true of each configuration is true of the one at a place
  each_at : (P : SessionConfig → Type 0) (xs : List X) (k : ℕ) (d : X) → AllByRecursion P (map config xs) → k < length xs
      → P (config (get_or xs k d))
  each_at P [] k d h within = absurd (omega arith)
  each_at P (x ∷ xs) zero d h within = h.0
  each_at P (x ∷ xs) (suc k) d h within = each_at P xs k d h.1 (omega arith)

  -- the discriminators ascend from place to place
  ascend : (xs : List X) (i j : ℕ) (d : X) → Ascends (map config xs) → i < j → j < length xs
      → discr_of (config (get_or xs i d)) < discr_of (config (get_or xs j d))
  ascend [] i j d up before within = absurd (omega arith)
  ascend (x ∷ xs) i zero d up before within = absurd (omega arith)
  ascend (x ∷ xs) zero (suc j) d up before within = each_at (λ later. discr_of (config x) < discr_of later) xs j d up.0 (omega arith)
  ascend (x ∷ xs) (suc i) (suc j) d up before within = ascend xs i j d up.1 (omega arith) (omega arith)

  -- so the comparisons with a discriminator rise, as a binary search asks
  rise : (xs : List X) (discr : ℕ) → Ascends (map config xs)
      → IsNonDecreasingBy (λ s. ordering_index (nat_cmp (discr_of (config s)) discr)) xs
  rise xs discr up i j d le within = elim (eq-or-lt_of_le le) [
    | inl same ↦ no_lower _ _ discr (omega (arith, ap (λ k. discr_of (config (get_or xs k d))) same))
    | inr before ↦ no_lower _ _ discr (omega (arith, ascend xs i j d up before within))
  ]

  -- the place among the sessions
  abbrev among : ℕ → List X → Option ℕ
  among discr xs = position (λ s. discr == discr_of (config s)) xs

  -- a place that has the discriminator, with lower ones before it
  place_found : (xs : List X) (discr at : ℕ) (d : X) → at < length xs → ((k : ℕ) → k < at → discr_of (config (get_or xs k d)) < discr)
      → discr_of (config (get_or xs at d)) ≡ discr → among discr xs ≡ Some at
  place_found xs discr at d within below same =
      let is = position_or_len_is (λ (s : X). discr == discr_of (config s)) xs at d (omega arith)
      (λ k lt. ne_eqb discr _ (let lower = below k lt in λ e. absurd (omega arith))) (λ _. eq-eqb discr _ (sym same)) in
      rw is (grind (arith, nat_tests))

  -- no place has it
  place_missing : (xs : List X) (discr : ℕ) (d : X) → ((k : ℕ) → k < length xs → discr_of (config (get_or xs k d)) ≡ discr → ⊥)
      → among discr xs ≡ None
  place_missing xs discr d differs =
      let is = position_or_len_is (λ s. discr == discr_of (config s)) xs (length xs) d (omega arith)
      (λ k lt. ne_eqb discr _ (λ e. differs k lt (sym e)))
      (λ lt. absurd (omega arith)) in
      rw is (grind (arith, nat_tests))

  found_among : (xs : List X) (discr : ℕ) (r : Result ℕ ℕ) → Ascends (map config xs) → IsSearchInRange r (length xs)
      → IsBinarySearchResult (λ s. nat_cmp (discr_of (config s)) discr) xs r → result_ok r ≡ among discr xs
  found_among [] discr (Ok at) up within equal = absurd (omega arith)
  found_among (x ∷ xs) discr (Ok at) up within equal = sym (place_found (x ∷ xs) discr at x within
      (λ k lt. let before = ascend (x ∷ xs) k at x up lt within in omega (arith, ranked _ discr _ (sym (equal x))))
      (ranked _ discr _ (sym (equal x))))
  found_among [] discr (Err at) up within parted = refl
  found_among (x ∷ xs) discr (Err at) up within parted =
      let sides = parted (rise (x ∷ xs) discr up) in
      sym (place_missing (x ∷ xs) discr x (λ k lt. differs _ discr at k
      (λ before. ranked _ discr _ (sym (sides.0 k x (omega arith) before)))
      (λ after. ranked _ discr _ (sym (sides.1 k x after lt)))))

  -- .. is that among their configurations
  first_map : (discr : ℕ) (xs : List X) → position_or_len (λ (c : SessionConfig). discr == discr_of c) (map config xs)
      ≡ position_or_len (λ (s : X). discr == discr_of (config s)) xs
  first_map discr [] = refl
  first_map discr (x ∷ xs) = cc (first_map discr xs)

  among_configs : (discr : ℕ) (xs : List X) → place_of discr (map config xs) ≡ among discr xs
  among_configs discr xs = rw (first_map discr xs, length-map xs config) refl

  -- what a binary search of sessions whose configurations ascend finds is the place of the discriminator
  pub searched : (xs : List X) (discr : ℕ) (r : Result ℕ ℕ) → Ascends (map config xs) → IsSearchInRange r (length xs)
      → IsBinarySearchResult (λ s. nat_cmp (discr_of (config s)) discr) xs r → result_ok r ≡ place_of discr (map config xs)
  searched xs discr r up bound found = found_among xs discr r up bound found ∙ sym (among_configs discr xs)
