-- What shards report, each in the order of its own sessions, is as one list what the whole table reports.
use Rattle.bfdd.proofs.WatchedTextCommon.{◌≡◌, ◌≢◌, ◌⊎◌, inl, inr, ◌<◌, ◌≤◌, ◌+◌, ◌-◌, ◌==◌, ◌++◌, ℕ, zero, suc, Bool, true, false, List}
use Rattle.bfdd.proofs.WatchedTextCommon.{[], ◌∷◌, refl, sym, ap, append_assoc, arith, nat_lt, if◌then◌else◌, AllByRecursion, flat_map}
use Rattle.bfdd.proofs.WatchedTextCommon.{filter_map-append, lt-ltb, le-ltb, eq-eqb, ne_eqb, cases_lt, dite, ℕ_discrete, Out, Changed, Sent}
use Rattle.bfdd.proofs.WatchedTextCommon.{named, discr_of, configs_of, Running, Ascends, share, Change, changes_in, lower, not_lower}
use Rattle.bfdd.proofs.WatchedTextCommon.{merged, merged_of}

-- changes of one session, and of sessions behind it

abbrev pub AreOf : ℕ → List Change → Type 0
AreOf d cs = AllByRecursion (λ c. c.discr ≡ d) cs

abbrev pub AreAbove : ℕ → List Change → Type 0
AreAbove d cs = AllByRecursion (λ c. d < c.discr) cs

lower_none : {d : ℕ} (e : ℕ) (cs : List Change) → e ≡ d → AreAbove d cs → lower e cs ≡ []
lower_none e [] is h = refl
lower_none e (c ∷ cs) is h = rw (le-ltb c.discr e (omega (arith, is, h.0))) refl

kept_all : {d : ℕ} (e : ℕ) (cs : List Change) → e ≡ d → AreAbove d cs → not_lower e cs ≡ cs
kept_all e [] is h = refl
kept_all e (c ∷ cs) is h = rw (le-ltb c.discr e (omega (arith, is, h.0))) refl

lower_more : {d : ℕ} (e : ℕ) (xs cs : List Change) → d < e → AreOf d xs → lower e (xs ++ cs) ≡ xs ++ lower e cs
lower_more e [] cs less h = refl
lower_more e (x ∷ xs) cs less h = rw (lt-ltb x.discr e (omega (arith, less, h.0))) (ap (λ ys. x ∷ ys) (lower_more e xs cs less h.1))

passed_more : {d : ℕ} (e : ℕ) (xs cs : List Change) → d < e → AreOf d xs → not_lower e (xs ++ cs) ≡ not_lower e cs
passed_more e [] cs less h = refl
passed_more e (x ∷ xs) cs less h = rw (lt-ltb x.discr e (omega (arith, less, h.0))) (passed_more e xs cs less h.1)

pub merged_nil : (cs : List Change) → merged cs [] ≡ cs
merged_nil [] = refl
merged_nil (c ∷ cs) = ap (λ ys. c ∷ ys) (merged_nil cs)

-- a session's changes come before those of sessions behind it, whichever list they stand in

first_own : (d : ℕ) (xs cs ds : List Change) → AreOf d xs → AreAbove d ds → merged (xs ++ cs) ds ≡ xs ++ merged cs ds
first_own d [] cs ds h above = refl
first_own d (x ∷ xs) cs ds h above = cc (lower_none x.discr ds h.0 above, kept_all x.discr ds h.0 above, first_own d xs cs ds h.1 above)

first_other : (d : ℕ) (cs ys ds : List Change) → AreAbove d cs → AreOf d ys → merged cs (ys ++ ds) ≡ ys ++ merged cs ds
first_other d [] ys ds above h = refl
first_other d (c ∷ cs) ys ds above h =
    cc (
      lower_more c.discr ys ds above.0 h,
      passed_more c.discr ys ds above.0 h,
      append_assoc ys (lower c.discr ds) (c ∷ merged cs (not_lower c.discr ds)),
    )

-- whose turn it is behind this shard
abbrev next : ℕ → ℕ → ℕ
next n q = if q + 1 == n then 0 else q + 1

next_over : (n q : ℕ) → q + 1 ≡ n → next n q ≡ 0
next_over n q e = rw (eq-eqb (q + 1) n e) refl

next_on : (n q : ℕ) → q + 1 ≢ n → next n q ≡ q + 1
next_on n q e = rw (ne_eqb (q + 1) n e) refl

next_below : (n q : ℕ) → q < n → next n q < n
next_below n q h = dite (ℕ_discrete (q + 1) n) (λ e. omega (arith, next_over n q e, h)) (λ e. omega (arith, next_on n q e, h, e))

-- of the places from one that is dealt to shard q on, shard r has the next one after c others
abbrev Place : ℕ → ℕ → ℕ → ℕ → Type 0
Place n q c r = (q + c ≡ r) ⊎ (q + c ≡ r + n)

first_place : (n q r : ℕ) → q < n → Place n q 0 r → q ≡ r
first_place n q r h (inl e) = omega (arith, e)
first_place n q r h (inr e) = absurd (omega (arith, e, h))

no_place : (n q c r : ℕ) → suc c < n → Place n q (suc c) r → q ≢ r
no_place n q c r h (inl e) = λ z. omega (arith, e, z)
no_place n q c r h (inr e) = λ z. omega (arith, e, z, h)

place_after : (n q r : ℕ) → q < n → q ≡ r → Place n (next n q) (n - 1) r
place_after n q r h is = dite (ℕ_discrete (q + 1) n) (λ e. inl (omega (arith, next_over n q e, e, is)))
    (λ e. inr (omega (arith, next_on n q e, is, h)))

place_on : (n q c r : ℕ) → q < n → r < n → Place n q (suc c) r → Place n (next n q) c r
place_on n q c r h k (inl e) = dite (ℕ_discrete (q + 1) n) (λ z. absurd (omega (arith, z, e, k)))
    (λ z. inl (omega (arith, next_on n q z, e)))
place_on n q c r h k (inr e) = dite (ℕ_discrete (q + 1) n) (λ z. inl (omega (arith, next_over n q z, z, e)))
    (λ z. inr (omega (arith, next_on n q z, e)))

three_ways : (q r : ℕ) → (q < r) ⊎ ((q ≡ r) ⊎ (r < q))
three_ways q r = dite (ℕ_discrete q r) (λ e. inr (inl e)) (λ e. apart (cases_lt q r) e)
  where
    apart : (q < r) ⊎ (r ≤ q) → q ≢ r → (q < r) ⊎ ((q ≡ r) ⊎ (r < q))
    apart (inl less) e = inl less
    apart (inr more) e = inr (inr (omega (arith, more, e)))

module _ (f : Running → List Change) where
  -- the changes of the sessions of some shards, of which the first session is of shard q
  picked : ℕ → (ℕ → Bool) → ℕ → List Running → List Change
  picked n p q [] = []
  picked n p q (s ∷ ss) = (if p q then f s else []) ++ picked n p (next n q) ss

  -- of one shard
  of_shard : (n r c q : ℕ) (ss : List Running) → q < n → c < n → r < n → Place n q c r
      → flat_map f (share n c ss) ≡ picked n (λ j. j == r) q ss
  unfolding share picked
  of_shard n r c q [] h k m at = refl
  of_shard n r zero q (s ∷ ss) h k m at =
      let is = first_place n q r h at in
      cc (eq-eqb q r is, of_shard n r (n - 1) (next n q) ss (next_below n q h) (omega (arith, h)) m (place_after n q r h is))
  of_shard n r (suc c) q (s ∷ ss) h k m at =
      cc (
        ne_eqb q r (no_place n q c r k at),
        of_shard n r c (next n q) ss (next_below n q h) (omega (arith, k)) m
            (place_on n q c r h m at),
      )

  none_picked : (n q : ℕ) (ss : List Running) → picked n (λ j. nat_lt j 0) q ss ≡ []
  unfolding picked
  none_picked n q [] = refl
  none_picked n q (s ∷ ss) = cc (le-ltb q 0 (omega arith), none_picked n (next n q) ss)

  all_picked : (n q : ℕ) (ss : List Running) → q < n → picked n (λ j. nat_lt j n) q ss ≡ flat_map f ss
  unfolding picked
  all_picked n q [] h = refl
  all_picked n q (s ∷ ss) h = cc (lt-ltb q n h, all_picked n (next n q) ss (next_below n q h))

  module _ (own : (s : Running) → AreOf (discr_of s.config) (f s)) where
    above_own : (d e : ℕ) (cs : List Change) → d < e → AreOf e cs → AreAbove d cs
    above_own d e [] h are = tt
    above_own d e (c ∷ cs) h are = (omega (arith, h, are.0), above_own d e cs h are.1)

    above_both : (d : ℕ) (xs ys : List Change) → AreAbove d xs → AreAbove d ys → AreAbove d (xs ++ ys)
    above_both d [] ys h k = k
    above_both d (x ∷ xs) ys h k = (h.0, above_both d xs ys h.1 k)

    above_if : (d : ℕ) (b : Bool) (xs ys : List Change) → AreAbove d xs → AreAbove d ys → AreAbove d ((if b then xs else []) ++ ys)
    above_if d true xs ys h k = above_both d xs ys h k
    above_if d false xs ys h k = k

    above_picked : (n : ℕ) (p : ℕ → Bool) (d q : ℕ) (ss : List Running) → AllByRecursion (λ c. d < discr_of c) (configs_of ss)
        → AreAbove d (picked n p q ss)
    unfolding picked
    above_picked n p d q [] h = tt
    above_picked n p d q (s ∷ ss) h = above_if d (p q) (f s) (picked n p (next n q) ss) (above_own d (discr_of s.config) (f s) h.0 (own s))
        (above_picked n p d (next n q) ss h.1)

    -- of one more shard
    more_by : (n r q : ℕ) (s : Running) (ss : List Running) → AllByRecursion (λ c. discr_of s.config < discr_of c) (configs_of ss)
        → merged (picked n (λ j. nat_lt j r) (next n q) ss) (picked n (λ j. j == r) (next n q) ss)
        ≡ picked n (λ j. nat_lt j (suc r)) (next n q) ss
        → (q < r) ⊎ ((q ≡ r) ⊎ (r < q))
        → merged (picked n (λ j. nat_lt j r) q (s ∷ ss)) (picked n (λ j. j == r) q (s ∷ ss)) ≡ picked n (λ j. nat_lt j (suc r)) q (s ∷ ss)
    unfolding picked
    more_by n r q s ss h rest (inl less) = cc (
      lt-ltb q r less,
      ne_eqb q r (λ z. omega (arith, z, less)),
      lt-ltb q (suc r) (omega (arith, less)),
      rest,
      first_own (discr_of s.config) (f s) (picked n (λ j. nat_lt j r) (next n q) ss) (picked n (λ j. j == r) (next n q) ss) (own s)
          (above_picked n (λ j. j == r) (discr_of s.config) (next n q) ss h),
    )
    more_by n r q s ss h rest (inr (inl e)) = cc (
      le-ltb q r (omega (arith, e)),
      eq-eqb q r e,
      lt-ltb q (suc r) (omega (arith, e)),
      rest,
      first_other (discr_of s.config) (picked n (λ j. nat_lt j r) (next n q) ss) (f s) (picked n (λ j. j == r) (next n q) ss)
          (above_picked n (λ j. nat_lt j r) (discr_of s.config) (next n q) ss h) (own s),
    )
    more_by n r q s ss h rest (inr (inr more)) =
        cc (le-ltb q r (omega (arith, more)), ne_eqb q r (λ z. omega (arith, z, more)), le-ltb q (suc r) (omega (arith, more)), rest)

    one_more : (n r q : ℕ) (ss : List Running) → Ascends (configs_of ss)
        → merged (picked n (λ j. nat_lt j r) q ss) (picked n (λ j. j == r) q ss) ≡ picked n (λ j. nat_lt j (suc r)) q ss
    unfolding picked
    one_more n r q [] h = refl
    one_more n r q (s ∷ ss) h = more_by n r q s ss h.0 (one_more n r (next n q) ss h.1) (three_ways q r)

    first_many : (n m : ℕ) (ss : List Running) → m ≤ n → 0 < n → Ascends (configs_of ss)
        → merged_of m (λ r. flat_map f (share n r ss)) ≡ picked n (λ j. nat_lt j m) 0 ss
    first_many n zero ss h some up = sym (none_picked n 0 ss)
    first_many n (suc m) ss h some up =
        cc (
          first_many n m ss (omega (arith, h)) some up,
          of_shard n m m 0 ss some (omega (arith, h)) (omega (arith, h)) (inl (omega arith)),
          one_more n m 0 ss up,
        )

    -- of all shards
    pub all_of : (n : ℕ) (ss : List Running) → 0 < n → Ascends (configs_of ss)
        → merged_of n (λ r. flat_map f (share n r ss)) ≡ flat_map f ss
    all_of n ss some up = cc (first_many n n ss (omega arith) some up, all_picked n 0 ss some)

-- lists that are the same, none, or one of them alone

pub same_of : (m : ℕ) (p q : ℕ → List Change) → ((r : ℕ) → r < m → p r ≡ q r) → merged_of m p ≡ merged_of m q
same_of zero p q h = refl
same_of (suc m) p q h = cc (same_of m p q (λ r k. h r (omega (arith, k))), h m (omega arith))

pub none_of : (m : ℕ) → merged_of m (λ r. []) ≡ []
none_of zero = refl
none_of (suc m) = cc (none_of m)

before_by : (m k : ℕ) (cs : List Change) → merged_of m (λ r. if k == r then cs else []) ≡ (if nat_lt k m then cs else [])
    → (k < m) ⊎ ((k ≡ m) ⊎ (m < k))
    → merged_of (suc m) (λ r. if k == r then cs else []) ≡ (if nat_lt k (suc m) then cs else [])
before_by m k cs so_far (inl less) = cc (
  so_far,
  lt-ltb k m less,
  ne_eqb k m (λ z. omega (arith, z, less)),
  lt-ltb k (suc m) (omega (arith, less)),
  merged_nil cs,
)
before_by m k cs so_far (inr (inl e)) = cc (so_far, le-ltb k m (omega (arith, e)), eq-eqb k m e, lt-ltb k (suc m) (omega (arith, e)))
before_by m k cs so_far (inr (inr more)) = cc (
  so_far,
  le-ltb k m (omega (arith, more)),
  ne_eqb k m (λ z. omega (arith, z, more)),
  le-ltb k (suc m) (omega (arith, more)),
)

one_before : (m k : ℕ) (cs : List Change) → merged_of m (λ r. if k == r then cs else []) ≡ (if nat_lt k m then cs else [])
one_before zero k cs = rw (le-ltb k 0 (omega arith)) refl
one_before (suc m) k cs = before_by m k cs (one_before m k cs) (three_ways k m)

pub one_of : (n k : ℕ) (cs : List Change) → k < n → merged_of n (λ r. if k == r then cs else []) ≡ cs
one_of n k cs h = cc (one_before n k cs, lt-ltb k n h)

-- the changes of many sessions' outputs
pub changes_flat : (number : ℕ) (items : Running → List Out) (ss : List Running)
    → changes_in number (flat_map items ss) ≡ flat_map (λ s. changes_in number (items s)) ss
changes_flat number items [] = refl
changes_flat number items (s ∷ ss) = cc (filter_map-append _ (items s) (flat_map items ss), changes_flat number items ss)

-- a session's outputs report changes of its own
pub changes_own : (number d : ℕ) (os : List Out) → AllByRecursion (λ o. named o ≡ d) os → AreOf d (changes_in number os)
changes_own number d [] h = tt
changes_own number d (Changed discr before after diag ∷ os) h = (h.0, changes_own number d os h.1)
changes_own number d (Sent discr datagram ∷ os) h = changes_own number d os h.1
