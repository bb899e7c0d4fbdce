-- Tables in ascending order, and how many of their entries pass a test.
use Rattle.bfd_demux.proofs.Common.{◌≡◌, ◌<◌, ◌≤◌, ℕ, ◌+◌, ◌-◌, ◌*◌, ◌^◌, Bool, true, false, cond, List, [], ◌∷◌, length, get_or, refl, sym}
use Rattle.bfd_demux.proofs.Common.{◌∙◌, ap, arith, suc, zero, inl, inr, ◌⊎◌, leb_tells, sorted_far, sum_by-IsPermutation, filter, list_any}
use Rattle.bfd_demux.proofs.Common.{is_eq, is_lt, ordering_reverse, IsTotalOrder, tied_itself, alike_right, Ordering, Less, Equal, Greater}
use Rattle.bfd_demux.proofs.Common.{how_many, HasKeysOnce, HasSame, IsAscending, IsPlaceOf, nat_lt, nat_tests, ◌||◌, pow-le-pow_right}
use Rattle.bfd_demux.proofs.Common.{mul-le-mul_left, eq-or-lt_of_le}
use Rattle.std.proofs.lemmas.Nat.{pow-add}
use Rattle.std.proofs.lemmas.List.Sums.{length-filter}
use Rattle.std.proofs.lemmas.List.MinMax.{ranks_by}
use Rattle.std.specs.List.Sorted.{IsPermutation, IsSortedByKey}

pub le_or_lt : (a b : ℕ) → (a ≤ b) ⊎ (b < a)
le_or_lt a b = elim (leb_tells a b) [ inl le ↦ inl le.1 | inr lt ↦ inr lt.1 ]

-- a permutation has as many that pass
pub how_many-IsPermutation : {X : Type 0} (test : X → Bool) {xs ys : List X} → IsPermutation xs ys → how_many test ys ≡ how_many test xs
how_many-IsPermutation test {xs} {ys} moved = cc (
  length-filter test ys,
  sum_by-IsPermutation (λ x. cond (test x) 1 0) xs ys moved,
  length-filter test xs,
)

-- one more in front
pub how_many-cons : {X : Type 0} (test : X → Bool) (x : X) (xs : List X) → how_many test (x ∷ xs) ≡ cond (test x) 1 0 + how_many test xs
how_many-cons test x xs =
    elim (test x) as (λ b. length (cond b (x ∷ filter test xs) (filter test xs))
    ≡ cond b 1 0 + how_many test xs) [ true ↦ omega arith | false ↦ omega arith ]

counted_any : (b : Bool) {l : Bool} (n : ℕ) → l ≡ nat_lt 0 n → (b || l) ≡ nat_lt 0 (cond b 1 0 + n)
counted_any true n e = grind (arith, nat_tests)
counted_any false n e = e ∙ ap (nat_lt 0) (omega arith)

-- some element passes where one at least is counted
pub list_any_counted : {X : Type 0} (test : X → Bool) (xs : List X) → list_any test xs ≡ nat_lt 0 (how_many test xs)
list_any_counted test [] = refl
list_any_counted test (x ∷ xs) = counted_any (test x) (how_many test xs) (list_any_counted test xs)
    ∙ ap (nat_lt 0) (sym (how_many-cons test x xs))

how_many_all : {X : Type 0} (xs : List X) → how_many (λ _. true) xs ≡ length xs
how_many_all [] = refl
how_many_all (x ∷ xs) = ap suc (how_many_all xs)

-- the same elements: as many, and a test is passed by some alike
pub length-HasSame : {X : Type 0} (xs ys : List X) → HasSame xs ys → length ys ≡ length xs
length-HasSame xs ys same = sym (how_many_all ys) ∙ same (λ _. true) ∙ how_many_all xs

pub list_any-HasSame : {X : Type 0} (test : X → Bool) (xs ys : List X) → HasSame xs ys → list_any test ys ≡ list_any test xs
list_any-HasSame test xs ys same = list_any_counted test ys ∙ ap (nat_lt 0) (same test) ∙ sym (list_any_counted test xs)

-- an element that passes is counted
pub one_passes : {X : Type 0} (test : X → Bool) (xs : List X) (i : ℕ) (d : X) → i < length xs → test (get_or xs i d) ≡ true
    → 1 ≤ how_many test xs
one_passes test [] i d lt pass = absurd (omega arith)
one_passes test (x ∷ xs) zero d lt pass = rw (how_many-cons, pass) (omega arith)
one_passes test (x ∷ xs) (suc i) d lt pass =
    let more = one_passes test xs i d (omega arith) pass in
    rw how_many-cons (omega arith)

-- two that pass are counted twice
two_pass : {X : Type 0} (test : X → Bool) (xs : List X) (i j : ℕ) (d : X) → i < j → j < length xs → test (get_or xs i d) ≡ true
    → test (get_or xs j d) ≡ true → 2 ≤ how_many test xs
two_pass test [] i j d lt within pass also = absurd (omega arith)
two_pass test (x ∷ xs) i zero d lt within pass also = absurd (omega arith)
two_pass test (x ∷ xs) zero (suc j) d lt within pass also =
    let more = one_passes test xs j d (omega arith) also in
    rw (how_many-cons, pass) (omega arith)
two_pass test (x ∷ xs) (suc i) (suc j) d lt within pass also =
    let more = two_pass test xs i j d (omega arith) (omega arith) pass also in
    rw how_many-cons (omega arith)

-- the first so many pass and no other: they are counted
pub front_passes : {X : Type 0} (test : X → Bool) (xs : List X) (i : ℕ) → i ≤ length xs → ((k : ℕ) (d : X) → k < i
    → test (get_or xs k d) ≡ true) → ((k : ℕ) (d : X) → i ≤ k → k < length xs → test (get_or xs k d) ≡ false) → how_many test xs ≡ i
front_passes test [] i within below above = omega arith
front_passes test (x ∷ xs) zero within below above =
    let rest = front_passes test xs zero (omega arith) (λ k d lt. absurd (omega arith))
    (λ k d le lt. above (suc k) d (omega arith) (omega arith)) in
    rw (how_many-cons, above zero x (omega arith) (omega arith)) (omega arith)
front_passes test (x ∷ xs) (suc i) within below above =
    let rest = front_passes test xs i (omega arith) (λ k d lt. below (suc k) d (omega arith))
    (λ k d le lt. above (suc k) d (omega arith) (omega arith)) in
    rw (how_many-cons, below zero x (omega arith)) (omega arith)

-- no element passes
pub none_passes : {X : Type 0} (test : X → Bool) (xs : List X) → ((k : ℕ) (d : X) → k < length xs → test (get_or xs k d) ≡ false)
    → list_any test xs ≡ false
none_passes test [] none = refl
none_passes test (x ∷ xs) none = rw (none zero x (omega arith)) (none_passes test xs (λ k d lt. none (suc k) d (omega arith)))

-- a search over half as many, after one more step
pub halves : (t : ℕ) {size : ℕ} (half : ℕ) {n : ℕ} → 2 ^ t * size ≤ n → half + half ≤ size → 2 ^ (t + 1) * half ≤ n
halves t half all twice =
    let doubled : 2 ^ (t + 1) * half ≡ 2 ^ t * (half + half) = rw pow-add (omega arith) in
    omega (arith, mul-le-mul_left (2 ^ t) twice)

-- 15 steps halve 65,535 entries to one
pub few_steps : (t : ℕ) {size n : ℕ} → 2 ^ t * size ≤ n → 0 < size → n < 65536 → t ≤ 15
few_steps t all some few =
    elim (le_or_lt t 15) [
      | inl le ↦ le
      | inr gt ↦
          let more : 2 ^ 16 ≤ 2 ^ t = pow-le-pow_right (omega arith) {i = 16} {j = t} gt in
          let times = mul-le-mul_left (2 ^ t) some in
          absurd (omega arith)
    ]

module _ {K : Type 0} {cmp : K → K → Ordering} (order : IsTotalOrder cmp) where
  -- what is lower one way is higher the other
  pub turned : {a b : K} → cmp a b ≡ Less → cmp b a ≡ Greater
  turned {a} {b} less = cc (order.antisymm b a)

  pub turned_back : {a b : K} → cmp a b ≡ Greater → cmp b a ≡ Less
  turned_back {a} {b} more = cc (order.antisymm b a)

  -- of two keys that are not in falling order and differ, the first is lower
  lower_of : (a b : K) → is_lt (cmp b a) ≡ false → (cmp a b ≡ Equal → ⊥) → cmp a b ≡ Less
  lower_of a b up apart = go (cmp a b) refl
    where
      go : (r : Ordering) → cmp a b ≡ r → cmp a b ≡ Less
      go Less e = e
      go Equal e = absurd (apart e)
      go Greater e = let turned = order.antisymm b a ∙ ap ordering_reverse e in cc

less_of : (r : Ordering) → is_lt r ≡ true → r ≡ Less
less_of Less e = refl
less_of r e = cc

-- a permutation has each key once where the list has
pub keys_once-IsPermutation : {K V : Type 0} (cmp : K → K → Ordering) {xs ys : List (K × V)} → IsPermutation xs ys → HasKeysOnce cmp xs
    → HasKeysOnce cmp ys
keys_once-IsPermutation {K} {V} cmp moved once key =
    let same = how_many-IsPermutation (λ entry. is_eq (cmp entry.0 key)) moved in
    omega (arith, once key)

-- and the other way round
pub keys_once-IsPermutation_back : {K V : Type 0} (cmp : K → K → Ordering) {xs ys : List (K × V)} → IsPermutation xs ys → HasKeysOnce cmp ys
    → HasKeysOnce cmp xs
keys_once-IsPermutation_back {K} {V} cmp moved once key =
    let same = how_many-IsPermutation (λ entry. is_eq (cmp entry.0 key)) moved in
    omega (arith, once key)

module _ {K V : Type 0} {cmp : K → K → Ordering} (order : IsTotalOrder cmp) where
  -- a sorted list with each key once ascends
  pub ascending_from_sorted : (xs : List (K × V)) → IsSortedByKey (λ (entry : K × V). entry.0) cmp xs → HasKeysOnce cmp xs
      → IsAscending cmp xs
  ascending_from_sorted xs up once i j d lt within =
      lower_of order _ _ (sorted_far (λ x y. is_lt (cmp x.0 y.0)) (ranks_by order (λ entry. entry.0)) xs up i j d (omega arith) within)
      (λ level. let twice = two_pass (λ entry. is_eq (cmp entry.0 (get_or xs j d).0)) xs i j d lt within (cc)
      (ap is_eq (tied_itself order _)) in omega (arith, once (get_or xs j d).0))

  -- one more entry, above the one before it
  pub one_longer : (xs : List (K × V)) {p : ℕ} {x y : K × V} → 0 < p → p < length xs → ((d : K × V) → x ≡ get_or xs (p - 1) d)
      → ((d : K × V) → y ≡ get_or xs p d) → is_lt (cmp x.0 y.0) ≡ true →
      ((i j : ℕ) (d : K × V) → i < j → j < p → cmp (get_or xs i d).0 (get_or xs j d).0 ≡ Less) →
      (i j : ℕ) (d : K × V) → i < j → j < p + 1 → cmp (get_or xs i d).0 (get_or xs j d).0 ≡ Less
  one_longer xs {p} some within before is less up i j d lt le =
      elim (eq-or-lt_of_le {n = j} {m = p} (omega arith)) [
        | inl same ↦ elim (eq-or-lt_of_le {n = i} {m = p - 1} (omega arith)) [
          | inl also ↦ rw (same, also, ← before d, ← is d) (less_of _ less)
          | inr below ↦ order.trans _ _ _ (up i (p - 1) d below (omega arith)) (rw (same, ← before d, ← is d) (less_of _ less))
        ]
        | inr earlier ↦ up i j d lt earlier
      ]

  -- in an ascending list each key comes once
  pub once_ascending : (xs : List (K × V)) → IsAscending cmp xs → HasKeysOnce cmp xs
  once_ascending [] up key = omega arith
  once_ascending (x ∷ xs) up key = go (once_ascending xs (λ i j d lt within. up (suc i) (suc j) d (omega arith) (omega arith)) key)
      (cmp x.0 key) refl
    where
      level : K × V → Bool
      level entry = is_eq (cmp entry.0 key)

      counted : how_many level (x ∷ xs) ≡ cond (level x) 1 0 + how_many level xs
      counted = how_many-cons level x xs

      apart : how_many level xs ≤ 1 → is_eq (cmp x.0 key) ≡ false → how_many level (x ∷ xs) ≤ 1
      apart few is =
          let none : how_many level (x ∷ xs) ≡ 0 + how_many level xs = counted ∙ rw is refl in
          omega arith

      go : how_many level xs ≤ 1 → (r : Ordering) → cmp x.0 key ≡ r → how_many level (x ∷ xs) ≤ 1
      go few Equal here =
          let none : how_many level xs ≡ 0 = front_passes level xs zero (omega arith) (λ k d lt. absurd (omega arith))
          (λ k d le lt. ap is_eq (turned order (sym (order.congr _ _ _ here) ∙ up zero (suc k) d (omega arith) (omega arith)))) in
          let one : how_many level (x ∷ xs) ≡ 1 + how_many level xs = counted ∙ rw here refl in
          omega arith
      go few Less lower = apart few (ap is_eq lower)
      go few Greater higher = apart few (ap is_eq higher)

  -- a key below the one at m has a lower entry everywhere up to m
  pub lower_up_to : (xs : List (K × V)) {key : K} {m : ℕ} {x : K × V} → IsAscending cmp xs → m < length xs
      → ((d : K × V) → x ≡ get_or xs m d) → cmp x.0 key ≡ Less →
      (k : ℕ) (d : K × V) → k < m + 1 → cmp (get_or xs k d).0 key ≡ Less
  lower_up_to xs {m} up within is less k d lt =
      elim (eq-or-lt_of_le {n = k} {m = m} (omega arith)) [
        | inl same ↦ rw (same, ← is d) less
        | inr below ↦ order.trans _ _ _ (up k m d below within) (rw (← is d) less)
      ]

  -- a key above
  pub higher_from : (xs : List (K × V)) {key : K} {m : ℕ} {x : K × V} → IsAscending cmp xs → m < length xs
      → ((d : K × V) → x ≡ get_or xs m d) → cmp x.0 key ≡ Greater →
      (k : ℕ) (d : K × V) → m ≤ k → k < length xs → cmp (get_or xs k d).0 key ≡ Greater
  higher_from xs {m} up within is more k d le lt =
      elim (eq-or-lt_of_le le) [
        | inl same ↦ rw (← same, ← is d) more
        | inr above ↦ turned order (order.trans _ _ _ (rw (← is d) (turned_back order more)) (up m k d above lt))
      ]

  -- the entry whose key compares Equal, with all lower ones before it
  pub place_found : (xs : List (K × V)) {key : K} {m : ℕ} {x : K × V} → IsAscending cmp xs → m < length xs
      → ((d : K × V) → x ≡ get_or xs m d) → cmp x.0 key ≡ Equal → IsPlaceOf cmp xs key m
  place_found xs {key} {m} {x} up within is level = record {
    within = within;
    level = λ d. rw (← is d) level;
    lower = front_passes (λ entry. is_lt (cmp entry.0 key)) xs m (omega arith) (λ k d lt.
        let before : cmp (get_or xs k d).0 x.0 ≡ Less = rw (is d) (up k m d lt within) in
        ap is_lt (sym (alike_right order _ _ _ level) ∙ before)) (λ k d le lt. elim (eq-or-lt_of_le le) [
          | inl same ↦ rw (← same, ← is d) (cc)
          | inr above ↦
              let after : cmp x.0 (get_or xs k d).0 ≡ Less = rw (is d) (up m k d above lt) in
              ap is_lt (turned order (cc (order.congr _ _ _ level)))
        ]);
  }

  -- all before are lower and all from here on higher: no entry has the key
  pub place_missing : (xs : List (K × V)) {key : K} {low : ℕ} → ((k : ℕ) (d : K × V) → k < low → cmp (get_or xs k d).0 key ≡ Less) →
      ((k : ℕ) (d : K × V) → low ≤ k → k < length xs → cmp (get_or xs k d).0 key ≡ Greater)
      → list_any (λ (entry : K × V). is_eq (cmp entry.0 key)) xs ≡ false
  place_missing xs {key} {low} below above = none_passes (λ entry. is_eq (cmp entry.0 key)) xs (λ k d lt.
      elim (le_or_lt low k) [ inl le ↦ ap is_eq (above k d le lt) | inr before ↦ ap is_eq (below k d before) ])
