-- What a binary search of the discriminators finds is the session's place.
use Rattle.bfd_session.proofs.Common.{◌≡◌, ◌<◌, ◌≤◌, ◌==◌, ◌+◌, ℕ, zero, suc, Bool, true, false, List, [], ◌∷◌, length, map, get_or, refl}
use Rattle.bfd_session.proofs.Common.{sym, ap, ◌∙◌, arith, inl, inr, None, Some, Result, Ok, Err, if◌then◌else◌, slice_get, unwrap_or}
use Rattle.bfd_session.proofs.Common.{AllByRecursion, position_from, eq-eqb, ne_eqb, SessionConfig, Event, discr_of, Ascends, CanTake}
use Rattle.std.proofs.Common.{MatchResult}
use Rattle.std.proofs.lemmas.List.{length-map}
use Rattle.bfd_session.specs.Reaching.{IsTaken}
use Rattle.bfd_session.specs.Rows.{place_of}
use Rattle.std.specs.List.Sorted.{IsBinarySearchResult}
use Rattle.std.specs.Ordering.{nat_cmp}
use Rattle.std.proofs.Math.Nat.{eq-or-lt_of_le}
use Rattle.std.proofs.lemmas.Iterator.Adapters.{position_from-zero}
use Rattle.std.proofs.lemmas.List.Sorted.{searched}
use Rattle.bfd_sbfd.proofs.Searching.{differs}

-- what is true of each discriminator is true of the one at a place
each_at : (P : ℕ → Type 0) (cs : List SessionConfig) (k : ℕ) → AllByRecursion (λ c. P (discr_of c)) cs → k < length cs
    → P (get_or (map discr_of cs) k 0)
each_at P [] k h within = absurd (omega arith)
each_at P (c ∷ cs) zero h within = h.0
each_at P (c ∷ cs) (suc k) h within = each_at P cs k h.1 (omega arith)

-- the discriminators ascend from place to place
rises : (cs : List SessionConfig) (i j : ℕ) → Ascends cs → i < j → j < length cs
    → get_or (map discr_of cs) i 0 < get_or (map discr_of cs) j 0
rises [] i j up before within = absurd (omega arith)
rises (c ∷ cs) i zero up before within = absurd (omega arith)
rises (c ∷ cs) zero (suc j) up before within = each_at (λ d. discr_of c < d) cs j up.0 (omega arith)
rises (c ∷ cs) (suc i) (suc j) up before within = rises cs i j up.1 (omega arith) (omega arith)

no_lower : (cs : List SessionConfig) {i j : ℕ} → Ascends cs → i ≤ j → j < length (map discr_of cs)
    → get_or (map discr_of cs) i 0 ≤ get_or (map discr_of cs) j 0
no_lower cs {i} {j} up le within = elim (eq-or-lt_of_le le) [
  | inl same ↦ omega (arith, ap (λ k. get_or (map discr_of cs) k 0) same)
  | inr before ↦ (omega (arith, rises cs i j up before (omega (arith, length-map cs discr_of, within))))
]

-- the first that has the discriminator, where a place has it and each before it another
first_at : (cs : List SessionConfig) {discr : ℕ} (n i : ℕ) → i < length cs → ((k : ℕ) → k < i → get_or (map discr_of cs) k 0 ≡ discr → ⊥)
    → get_or (map discr_of cs) i 0 ≡ discr → position_from (λ (c : SessionConfig). discr == discr_of c) n cs ≡ Some (n + i)
first_at [] n i within other same = absurd (omega arith)
first_at (c ∷ cs) {discr} n zero within other same = rw (eq-eqb discr (discr_of c) (sym same)) (ap Some (omega arith))
first_at (c ∷ cs) {discr} n (suc i) within other same = rw (ne_eqb discr (discr_of c) (λ e. other 0 (omega arith) (sym e)))
    (first_at cs (n + 1) i (omega arith) (λ k lt. other (suc k) (omega arith)) same ∙ ap Some (omega arith))

-- none, where each has another
none_at : (cs : List SessionConfig) (discr n : ℕ) → ((k : ℕ) → k < length cs → get_or (map discr_of cs) k 0 ≡ discr → ⊥)
    → position_from (λ (c : SessionConfig). discr == discr_of c) n cs ≡ None
none_at [] discr n other = refl
none_at (c ∷ cs) discr n other =
    rw (ne_eqb discr (discr_of c) (λ e. other 0 (omega arith) (sym e))) (none_at cs discr (n + 1) (λ k lt. other (suc k) (omega arith)))

found : (cs : List SessionConfig) {discr i : ℕ} → Ascends cs → i < length (map discr_of cs) → get_or (map discr_of cs) i 0 ≡ discr
    → place_of discr cs ≡ Some i
found cs {discr} {i} up within same =
    let inside : i < length cs = omega (arith, length-map cs discr_of, within) in
    position_from-zero (λ c. discr == discr_of c) cs
    ∙ first_at cs 0 i inside (λ k lt own. (omega (arith, rises cs k i up lt inside, own, same))) same ∙ ap Some (omega arith)

missing : (cs : List SessionConfig) (discr at : ℕ) → ((k : ℕ) → k < at → get_or (map discr_of cs) k 0 < discr)
    → ((k : ℕ) → at ≤ k → k < length (map discr_of cs) → discr < get_or (map discr_of cs) k 0) → place_of discr cs ≡ None
missing cs discr at below above = position_from-zero (λ c. discr == discr_of c) cs
    ∙ none_at cs discr 0 (λ k lt. differs (get_or (map discr_of cs) k 0) discr at k (below k)
    (λ le. above k le (omega (arith, length-map cs discr_of, lt))))

-- what the search says is the place, and it is one of the table
pub search_is : (cs : List SessionConfig) (discr : ℕ) {ds : List ℕ} (r : Result ℕ ℕ) → ds ≡ map discr_of cs → Ascends cs
    → IsBinarySearchResult (λ y. nat_cmp y discr) ds r
    → MatchResult r (λ i. (Some i ≡ place_of discr cs) × (i < length cs)) (λ i. None ≡ place_of discr cs)
search_is cs discr (Ok i) are up h =
    let s = searched (map discr_of cs) discr (Ok i) (rw (← are) h) (λ a b le lt. no_lower cs up le lt) in
    (sym (found cs up s.0 s.1), omega (arith, length-map cs discr_of, s.0))
search_is cs discr (Err i) are up h =
    let s = searched (map discr_of cs) discr (Err i) (rw (← are) h) (λ a b le lt. no_lower cs up le lt) in
    sym (missing cs discr i s.1 s.2)

-- the place of a session
record Sits (cs : List SessionConfig) (n k : ℕ) : Type 0 where
  place : ℕ
  config : SessionConfig
  is : k ≡ n + place
  there : slice_get cs place ≡ Some config

sits : (p : SessionConfig → Bool) (n : ℕ) {k : ℕ} (cs : List SessionConfig) → position_from p n cs ≡ Some k → Sits cs n k
sits p n [] e = cc
sits p n {k} (c ∷ cs) e = by (p c) e (λ f. sits p (n + 1) cs f)
  where
    by : (b : Bool) → (if b then Some n else position_from p (n + 1) cs) ≡ Some k
        → (position_from p (n + 1) cs ≡ Some k → Sits cs (n + 1) k) → Sits (c ∷ cs) n k
    by true f later = record {
      place = 0;
      config = c;
      is = (let same : n ≡ k = ap (λ o. unwrap_or o k) f in omega (arith, same));
      there = refl;
    }
    by false f later = let s : Sits cs (n + 1) k = later f in
        record { place = suc s.place; config = s.config; is = omega (arith, s.is); there = s.there }

-- what every session accepts, the one with the discriminator accepts
pub stands : (cs : List SessionConfig) (discr k : ℕ) (event : Event) → Some k ≡ place_of discr cs → ((c : SessionConfig) → CanTake c event)
    → IsTaken cs k event
stands cs discr k event e takes =
    let s : Sits cs 0 k = sits (λ c. discr == discr_of c) 0 cs (cc (position_from-zero (λ c. discr == discr_of c) cs)) in
    record { config = s.config; there = ap (slice_get cs) (omega (arith, s.is)) ∙ s.there; takes = takes s.config }
