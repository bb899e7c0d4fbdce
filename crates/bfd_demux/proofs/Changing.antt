-- One more row, or one less: what is wrong with the rows, and the two lists.
use Rattle.bfd_demux.proofs.Common.{◌≡◌, ◌<◌, ◌≤◌, ℕ, ◌+◌, ◌-◌, Bool, true, false, cond, not, ◌==◌, ◌&&◌, if◌then◌else◌, nat_lt, List, []}
use Rattle.bfd_demux.proofs.Common.{◌∷◌, length, get_or, map, refl, sym, ◌∙◌, ap, arith, suc, zero, inl, inr, ◌⊎◌, Option, Some, None}
use Rattle.bfd_demux.proofs.Common.{position, nat_tests, filter, list_any, position_from, option_map, option_or, is_eq, eq-eqb, eqb-true}
use Rattle.bfd_demux.proofs.Common.{eq-or-lt_of_le, and_parts, Port, Row, RowKind, Reflect, Name, same_discr, same_addresses, has_addresses}
use Rattle.bfd_demux.proofs.Common.{add_fault, build_fault, fault_kind, pair_fault, first_repeat, names_of, row_name, name_in, name_discr}
use Rattle.bfd_demux.proofs.Common.{names_a_session, heard_on, is_session, how_many, HasSame, IsAscending, IsPlaceOf, IsSlotFor, is_lt, Ok}
use Rattle.bfd_demux.proofs.Common.{Err, Result, Ordering, Less, IsTotalOrder}
use Rattle.std.specs.Prelude.{is_ok, is_some, nat_le}
use Rattle.std.specs.Result.{MatchResult}
use Rattle.std.specs.Ordering.{ordering_index}
use Rattle.std.specs.List.Sorted.{IsBinarySearchResult, IsNonDecreasingBy, IsSearchInRange}
use Rattle.std.specs.List.{insert, remove}
use Rattle.std.proofs.lemmas.Iterator.Adapters.{position_from-zero}
use Rattle.std.proofs.lemmas.List.Edits.{length-insert, get_or-insert_below, get_or-insert_at, get_or-insert_above}
use Rattle.std.proofs.lemmas.List.Sorted.{IsPermutation-insert, searchable_from_sorted}
use Rattle.std.proofs.lemmas.List.Folds.{list_any_at}
use Rattle.std.proofs.lemmas.List.Quantifiers.{position-Some}
use Rattle.bfd_demux.specs.declared.fault.BuildFault.TheVariants.{SameDiscr, SameAddresses, ZeroDiscr, TooMany}
use Rattle.bfd_demux.specs.declared.fault.AddFault.TheVariants as adding
use Rattle.bfd_demux.proofs.AlikeRows.{same_selector_is}
use Rattle.bfd_demux.proofs.Ascending.{how_many-cons, how_many-IsPermutation, list_any_counted, one_passes, le_or_lt, place_found}
use Rattle.bfd_demux.proofs.Ascending.{place_missing, turned, turned_back}
use Rattle.bfd_demux.proofs.Once.{how_many-map, how_many-filter, how_many_weaker, none_before, once_after, sound_rows, unmapped}
use Rattle.bfd_demux.proofs.Apart.{nowhere, apart_after, alike_or_never}
use Rattle.bfd_demux.proofs.Lookups.{at_default, how_many_agree, length-filter-le}

-- ---- lists in order

-- as many pass after an insert as with one more in front
pub how_many-insert : {X : Type 0} (test : X → Bool) (xs : List X) (i : ℕ) (x : X)
    → how_many test (insert xs i x) ≡ cond (test x) 1 0 + how_many test xs
how_many-insert test xs i x = how_many-IsPermutation test (IsPermutation-insert xs i x) ∙ how_many-cons test x xs

-- what is true at each place is true at each place of those that are kept
each_kept : {X : Type 0} (P : X → Type 0) (keep : X → Bool) (xs : List X) → ((k : ℕ) (d : X) → k < length xs → P (get_or xs k d))
    → (k : ℕ) (d : X) → k < length (filter keep xs) → P (get_or (filter keep xs) k d)
each_kept P keep [] all k d lt = all k d lt
each_kept {X} P keep (x ∷ xs) all k d lt = by (keep x) (each_kept P keep xs (λ n e within. all (suc n) e (omega arith)))
    (all zero d (omega arith)) k d lt
  where
    by : (b : Bool) → ((k : ℕ) (d : X) → k < length (filter keep xs) → P (get_or (filter keep xs) k d)) → P x
        → (k : ℕ) (d : X) → k < length (cond b (x ∷ filter keep xs) (filter keep xs))
        → P (get_or (cond b (x ∷ filter keep xs) (filter keep xs)) k d)
    by true rest first zero d lt = first
    by true rest first (suc k) d lt = rest k d (omega arith)
    by false rest first k d lt = rest k d lt

module _ {K V : Type 0} {cmp : K → K → Ordering} (order : IsTotalOrder cmp) where
  pair_less : {a b c d : K × V} → a ≡ c → b ≡ d → cmp c.0 d.0 ≡ Less → cmp a.0 b.0 ≡ Less
  pair_less e f less = rw (e, f) less

  -- an entry at its place
  pub ascending_inserted : (xs : List (K × V)) (place : ℕ) (entry : K × V) → IsAscending cmp xs → IsSlotFor cmp xs entry.0 place
      → IsAscending cmp (insert xs place entry)
  ascending_inserted xs place entry up slot i j d lt within = by (le_or_lt place i) (le_or_lt place j)
    where
      before : (k : ℕ) → k < place → get_or (insert xs place entry) k d ≡ get_or xs k d
      before k low = get_or-insert_below xs place entry d k low slot.within

      here : (k : ℕ) → k ≡ place → get_or (insert xs place entry) k d ≡ entry
      here k same = ap (λ n. get_or (insert xs place entry) n d) same ∙ get_or-insert_at xs place entry d slot.within

      after : (k : ℕ) → place < k → get_or (insert xs place entry) k d ≡ get_or xs (k - 1) d
      after k high =
          let next : k ≡ (k - 1) + 1 = omega arith in
          ap (λ n. get_or (insert xs place entry) n d) next ∙ get_or-insert_above xs place entry d (k - 1) (omega arith) slot.within

      inside : j < length xs + 1
      inside = omega (arith, length-insert xs place entry slot.within, within)

      by : (place ≤ i) ⊎ (i < place) → (place ≤ j) ⊎ (j < place)
          → cmp (get_or (insert xs place entry) i d).0 (get_or (insert xs place entry) j d).0 ≡ Less
      by (inr low) (inr also) = pair_less (before i low) (before j also) (up i j d lt (omega (arith, slot.within)))
      by (inl high) (inr also) = absurd (omega arith)
      by (inr low) (inl high) = elim (eq-or-lt_of_le high) [
        | inl same ↦ pair_less (before i low) (here j (sym same)) (slot.below i d low)
        | inr above ↦ pair_less (before i low) (after j above) (up i (j - 1) d (omega arith) (omega (arith, inside)))
      ]
      by (inl low) (inl high) = elim (eq-or-lt_of_le low) [
        | inl same ↦ pair_less (here i (sym same)) (after j (omega arith))
            (turned_back order (slot.above (j - 1) d (omega arith) (omega (arith, inside))))
        | inr above ↦ pair_less (after i above) (after j (omega arith)) (up (i - 1) (j - 1) d (omega arith) (omega (arith, inside)))
      ]

  rises : (xs : List (K × V)) (key : K) → IsAscending cmp xs → IsNonDecreasingBy (λ (entry : K × V). ordering_index (cmp entry.0 key)) xs
  rises xs key up = searchable_from_sorted order (λ (entry : K × V). entry.0) xs key
      (λ k d low within. ap is_lt (turned order (up k (k + 1) d (omega arith) within)))

  -- what a binary search says: the place of the key, or the place for it
  pub slot_found : (xs : List (K × V)) (key : K) (r : Result ℕ ℕ) → IsAscending cmp xs → IsSearchInRange r (length xs)
      → IsBinarySearchResult (λ (entry : K × V). cmp entry.0 key) xs r → MatchResult r (IsPlaceOf cmp xs key) (IsSlotFor cmp xs key)
  slot_found [] key (Ok i) up within equal = absurd (omega arith)
  slot_found (x ∷ xs) key (Ok i) up within equal =
      place_found order (x ∷ xs) {key = key} {m = i} {x = get_or (x ∷ xs) i x} up within (λ d. at_default (x ∷ xs) i x d within) (equal x)
  slot_found xs key (Err i) up within parted =
      let sides = parted (rises xs key up) in
      record { within = within; below = λ k d low. sides.0 k d (omega arith) low; above = sides.1 }

  -- whether the key is present
  pub key_there : (xs : List (K × V)) (key : K) (r : Result ℕ ℕ) (found : Bool)
      → MatchResult r (IsPlaceOf cmp xs key) (IsSlotFor cmp xs key) → found ≡ is_ok r
      → found ≡ list_any (λ (entry : K × V). is_eq (cmp entry.0 key)) xs
  key_there [] key (Ok i) found at is = let within = at.within in absurd (omega arith)
  key_there (x ∷ xs) key (Ok i) found at is =
      is ∙ sym (list_any_at (λ (entry : K × V). is_eq (cmp entry.0 key)) (x ∷ xs) i x at.within (ap is_eq (at.level x)))
  key_there xs key (Err i) found at is = is ∙ sym (place_missing order xs {key = key} {low = i} at.below at.above)

  -- those that are kept
  pub ascending_kept : (keep : K × V → Bool) (xs : List (K × V)) → IsAscending cmp xs → IsAscending cmp (filter keep xs)
  ascending_kept keep [] up = up
  ascending_kept keep (x ∷ xs) up = by (keep x) (ascending_kept keep xs
      (λ i j d lt within. up (suc i) (suc j) d (omega arith) (omega arith)))
      (each_kept (λ entry. cmp x.0 entry.0 ≡ Less) keep xs (λ k d within. up zero (suc k) d (omega arith) (omega arith)))
    where
      by : (b : Bool) → IsAscending cmp (filter keep xs)
          → ((k : ℕ) (d : K × V) → k < length (filter keep xs) → cmp x.0 (get_or (filter keep xs) k d).0 ≡ Less)
          → IsAscending cmp (cond b (x ∷ filter keep xs) (filter keep xs))
      by true rest above i zero d lt within = absurd (omega arith)
      by true rest above zero (suc j) d lt within = above j d (omega arith)
      by true rest above (suc i) (suc j) d lt within = rest i j d (omega arith) (omega arith)
      by false rest above i j d lt within = rest i j d lt within

-- ---- the one element that passes is removed

kept_all : {X : Type 0} (test : X → Bool) (xs : List X) → how_many test xs ≡ 0 → filter (λ x. not (test x)) xs ≡ xs
kept_all test [] none = refl
kept_all test (x ∷ xs) none = by (test x) refl (kept_all test xs)
  where
    by : (b : Bool) → test x ≡ b → (how_many test xs ≡ 0 → filter (λ y. not (test y)) xs ≡ xs)
        → filter (λ y. not (test y)) (x ∷ xs) ≡ x ∷ xs
    by true is rest = let one : how_many test (x ∷ xs) ≡ 1 + how_many test xs = how_many-cons test x xs ∙ rw is refl in absurd (omega arith)
    by false is rest =
        let same : how_many test (x ∷ xs) ≡ 0 + how_many test xs = how_many-cons test x xs ∙ rw is refl in
        rw is (ap (λ ys. x ∷ ys) (rest (omega arith)))

pub removed_is_kept : {X : Type 0} (test : X → Bool) (xs : List X) (i : ℕ) (d : X) → i < length xs → test (get_or xs i d) ≡ true
    → how_many test xs ≤ 1
    → remove xs i ≡ filter (λ x. not (test x)) xs
removed_is_kept test [] i d lt pass few = absurd (omega arith)
removed_is_kept test (x ∷ xs) zero d lt pass few =
    let one : how_many test (x ∷ xs) ≡ 1 + how_many test xs = how_many-cons test x xs ∙ rw pass refl in
    rw pass (sym (kept_all test xs (omega arith)))
removed_is_kept test (x ∷ xs) (suc i) d lt pass few = by (test x) refl (removed_is_kept test xs i d (omega arith) pass)
  where
    some : 1 ≤ how_many test xs
    some = one_passes test xs i d (omega arith) pass

    by : (b : Bool) → test x ≡ b → (how_many test xs ≤ 1 → remove xs i ≡ filter (λ y. not (test y)) xs)
        → remove (x ∷ xs) (suc i) ≡ filter (λ y. not (test y)) (x ∷ xs)
    by true is rest = let one : how_many test (x ∷ xs) ≡ 1 + how_many test xs = how_many-cons test x xs ∙ rw is refl in
        absurd (omega (arith, some))
    by false is rest =
        let same : how_many test (x ∷ xs) ≡ 0 + how_many test xs = how_many-cons test x xs ∙ rw is refl in
        rw is (ap (λ ys. x ∷ ys) (rest (omega arith)))

-- the place that a test finds, where it passes one at most: without that element all are left that fail it
pub found_within : {X : Type 0} (test : X → Bool) (xs : List X) (i : ℕ) (d : X) → Some i ≡ position test xs → i < length xs
found_within test xs i d at = (position-Some test xs i d (sym at)).0

pub found_out : {X : Type 0} (test : X → Bool) (xs : List X) (i : ℕ) (d : X) → Some i ≡ position test xs → how_many test xs ≤ 1
    → remove xs i ≡ filter (λ x. not (test x)) xs
found_out test xs i d at few =
    let there = position-Some test xs i d (sym at) in
    removed_is_kept test xs i d there.0 there.1 few

-- where it finds none, all fail it
none_fails : {X : Type 0} (test : X → Bool) (n : ℕ) (xs : List X) → position_from test n xs ≡ None → filter (λ x. not (test x)) xs ≡ xs
none_fails test n [] e = refl
none_fails test n (x ∷ xs) e = by (test x) e (none_fails test (n + 1) xs)
  where
    by : (b : Bool) → cond b (Some n) (position_from test (n + 1) xs) ≡ None
        → (position_from test (n + 1) xs ≡ None → filter (λ y. not (test y)) xs ≡ xs)
        → cond (not b) (x ∷ filter (λ y. not (test y)) xs) (filter (λ y. not (test y)) xs) ≡ x ∷ xs
    by true none rest = cc
    by false none rest = ap (λ ys. x ∷ ys) (rest none)

pub none_out : {X : Type 0} (test : X → Bool) (xs : List X) → None ≡ position test xs → xs ≡ filter (λ x. not (test x)) xs
none_out test xs at = sym (none_fails test 0 xs (sym (position_from-zero test xs) ∙ sym at))

-- ---- rows that are alike

-- what a sameness of rows is like: a row is the same as itself, or as none; two that are the same as a third are the same; and a
-- row is the same as what its like is
record IsLikeness (same : Row → Row → Bool) : Type 0 where
  itself : (row : Row) → (same row row ≡ true) ⊎ ((other : Row) → same row other ≡ false)
  joins : (third row other : Row) → same third row ≡ true → same third other ≡ true → same row other ≡ true
  turns : (row other : Row) → same row other ≡ true → (third : Row) → same row third ≡ same other third

discr_likeness : IsLikeness same_discr
discr_likeness = record {
  itself = λ row. inl (eq-eqb row.discr row.discr refl);
  joins = λ third row other here there. rw (← eqb-true third.discr row.discr here) there;
  turns = λ row other here third. rw (eqb-true row.discr other.discr here) refl;
}

addresses_likeness : IsLikeness same_addresses
addresses_likeness = record {
  itself = λ row. alike_or_never row.kind (has_addresses row.kind) refl;
  joins = λ third row other here there. rw (← same_selector_is third.kind row.kind here) there;
  turns = λ row other here third. rw (same_selector_is row.kind other.kind here) refl;
}

none_counted : (test : Row → Bool) (rows : List Row) → ((row : Row) → test row ≡ false) → how_many test rows ≡ 0
none_counted test [] never = refl
none_counted test (row ∷ rows) never = how_many-cons test row rows ∙ rw (never row) (omega (arith, none_counted test rows never))

-- something is found where one at least is counted
found_counted : {A : Type 0} (o : Option A) (n : ℕ) → (o ≡ None → n ≡ 0) → (n ≡ 0 → o ≡ None) → is_some o ≡ nat_lt 0 n
found_counted None n none found = ap (nat_lt 0) (sym (none refl))
found_counted (Some x) zero none found = cc (found refl)
found_counted (Some x) (suc n) none found = grind (arith, nat_tests)

module _ {same : Row → Row → Bool} (like : IsLikeness same) (rows : List Row) (apart : first_repeat same rows ≡ None) where
  -- no row is like two
  once : (row : Row) → how_many (same row) rows ≤ 1
  once row = once_after same (same row) (like.joins row) [] rows apart (omega arith)

  -- one more row makes a repeat where it is like one of them
  repeat_added : (place : ℕ) (row : Row) → is_some (first_repeat same (insert rows place row)) ≡ list_any (same row) rows
  repeat_added place row = found_counted (first_repeat same (insert rows place row)) (how_many (same row) rows) none found
      ∙ sym (list_any_counted (same row) rows)
    where
      counted : (other : Row) → how_many (same other) (insert rows place row) ≡ cond (same other row) 1 0 + how_many (same other) rows
      counted other = how_many-insert (same other) rows place row

      none : first_repeat same (insert rows place row) ≡ None → how_many (same row) rows ≡ 0
      none clear =
          let few : how_many (same row) (insert rows place row) ≤ 1 =
          once_after same (same row) (like.joins row) [] (insert rows place row) clear (omega arith) in
          elim (like.itself row) [
            | inl itself ↦
                let more : how_many (same row) (insert rows place row) ≡ 1 + how_many (same row) rows = counted row ∙ rw itself refl in
                omega arith
            | inr never ↦ none_counted (same row) rows never
          ]

      found : how_many (same row) rows ≡ 0 → first_repeat same (insert rows place row) ≡ None
      found zero_like = apart_after same like.itself [] (insert rows place row) (λ other. by other (same other row) refl)
        where
          by : (other : Row) (b : Bool) → same other row ≡ b → how_many (same other) (insert rows place row) ≤ 1
          by other true is =
              let more : how_many (same other) (insert rows place row) ≡ 1 + how_many (same other) rows = counted other ∙ rw is refl in
              let none_other : how_many (same other) rows ≡ how_many (same row) rows = how_many_agree (like.turns other row is) rows in
              omega arith
          by other false is =
              let more : how_many (same other) (insert rows place row) ≡ 0 + how_many (same other) rows = counted other ∙ rw is refl in
              omega (arith, once other)

  -- rows less make none
  repeat_kept : (keep : Row → Bool) → first_repeat same (filter keep rows) ≡ None
  repeat_kept keep = apart_after same like.itself [] (filter keep rows) (λ other.
      let kept = how_many-filter (same other) keep rows in
      let less = how_many_weaker (λ row. keep row && same other row) (same other) (λ row e. (and_parts (keep row) (same other row) e).1)
      rows in
      omega (arith, once other))

-- ---- what is wrong with rows

is_zero : Row → Bool
is_zero row = row.discr == 0

zeros : (rows : List Row) → position (λ row. row.discr == 0) rows ≡ position_from (λ row. row.discr == 0) 0 rows
zeros rows = position_from-zero (λ row. row.discr == 0) rows

no_zero : (rows : List Row) → position (λ row. row.discr == 0) rows ≡ None → how_many (λ row. row.discr == 0) rows ≡ 0
no_zero rows none = none_before (λ row. row.discr == 0) (λ row. row.discr == 0) (λ row e. e) 0 rows (sym (zeros rows) ∙ none)

zero_none : (rows : List Row) → how_many (λ row. row.discr == 0) rows ≡ 0 → position (λ row. row.discr == 0) rows ≡ None
zero_none rows none = zeros rows ∙ nowhere (λ row. row.discr == 0) 0 rows (omega arith)

one_or_none : (b : Bool) → nat_lt 0 (cond b 1 0 + 0) ≡ b
one_or_none true = grind (arith, nat_tests)
one_or_none false = grind (arith, nat_tests)

zero_added : (rows : List Row) (place : ℕ) (row : Row) → position (λ row. row.discr == 0) rows ≡ None
    → is_some (position (λ row. row.discr == 0) (insert rows place row)) ≡ (row.discr == 0)
zero_added rows place row none =
    found_counted (position (λ row. row.discr == 0) (insert rows place row)) (how_many (λ row. row.discr == 0) (insert rows place row))
    (no_zero (insert rows place row)) (zero_none (insert rows place row))
    ∙ ap (nat_lt 0) (how_many-insert (λ row. row.discr == 0) rows place row ∙ ap (λ n. cond (row.discr == 0) 1 0 + n) (no_zero rows none))
    ∙ one_or_none (row.discr == 0)

-- the first of the faults, by what there is of each
first_kind : (many : Bool) (n : ℕ) (z : Option ℕ) (p q : Option (ℕ × ℕ)) {zb pb qb : Bool} → is_some z ≡ zb → is_some p ≡ pb
    → is_some q ≡ qb →
    option_map fault_kind (option_or (if many then Some (TooMany n) else option_map ZeroDiscr z)
    (option_or (pair_fault SameDiscr p) (pair_fault SameAddresses q)))
    ≡ (if many then Some adding.TooMany else if zb then Some adding.ZeroDiscr else if pb then Some adding.SameDiscr else if qb then Some
    adding.SameAddresses else None)
first_kind true n z p q hz hp hq = refl
first_kind false n (Some k) p q hz hp hq = rw (← hz) refl
first_kind false n None (Some pair) q hz hp hq = rw (← hz, ← hp) refl
first_kind false n None None (Some pair) hz hp hq = rw (← hz, ← hp, ← hq) refl
first_kind false n None None None hz hp hq = rw (← hz, ← hp, ← hq) refl

-- what keeps a row from rows without a fault is the kind of fault that they have with it
pub added_as_built : (rows : List Row) (place : ℕ) (row : Row) → place ≤ length rows → build_fault rows ≡ None
    → option_map fault_kind (build_fault (insert rows place row)) ≡ add_fault row rows
added_as_built rows place row within sound =
    let parts = sound_rows rows sound in
    let long : length (insert rows place row) ≡ length rows + 1 = length-insert rows place row within in
    let many : nat_lt 65536 (length (insert rows place row)) ≡ nat_le 65536 (length rows) =
    ap (nat_lt 65536) long ∙ grind (arith, nat_tests) in
    rw (← many) (first_kind (nat_lt 65536 (length (insert rows place row))) (length (insert rows place row))
    (position (λ row. row.discr == 0) (insert rows place row))
    (first_repeat same_discr (insert rows place row)) (first_repeat same_addresses (insert rows place row))
    (zero_added rows place row parts.zero)
    (repeat_added discr_likeness rows parts.discrs place row) (repeat_added addresses_likeness rows parts.addresses place row))

pub sound_added : (rows : List Row) (place : ℕ) (row : Row) → place ≤ length rows → build_fault rows ≡ None → add_fault row rows ≡ None
    → build_fault (insert rows place row) ≡ None
sound_added rows place row within sound fits = unmapped fault_kind (build_fault (insert rows place row))
    (added_as_built rows place row within sound ∙ fits)

pub sound_kept : (rows : List Row) (keep : Row → Bool) → build_fault rows ≡ None → build_fault (filter keep rows) ≡ None
sound_kept rows keep sound =
    let parts = sound_rows rows sound in
    let few : nat_lt 65536 (length (filter keep rows)) ≡ false = let shorter = length-filter-le keep rows in let most = parts.few in
    grind (arith, nat_tests) in
    let kept = how_many-filter (λ row. row.discr == 0) keep rows in
    let less = how_many_weaker (λ row. keep row && (row.discr == 0)) (λ row. row.discr == 0)
    (λ row e. (and_parts (keep row) (row.discr == 0) e).1) rows in
    let none = no_zero rows parts.zero in
    rw (
      few,
      zero_none (filter keep rows) (omega arith),
      repeat_kept discr_likeness rows parts.discrs keep,
      repeat_kept addresses_likeness rows parts.addresses keep,
    ) refl

-- ---- the lists of the rows

session_name : (kind : RowKind) (discr : ℕ) → names_a_session (name_in kind discr) ≡ is_session kind
session_name Reflect discr = refl
session_name kind discr = refl

pub discr_name : (kind : RowKind) (discr : ℕ) → name_discr (name_in kind discr) ≡ discr
discr_name Reflect discr = refl
discr_name kind discr = refl

-- as many names are sessions' as rows are
pub sessions_named : (rows : List Row) (names : List (Name × Option Port)) → HasSame (names_of rows) names
    → how_many (λ (entry : Name × Option Port). names_a_session entry.0) names ≡ how_many (λ row. is_session row.kind) rows
sessions_named rows names same = same (λ entry. names_a_session entry.0)
    ∙ how_many-map (λ (entry : Name × Option Port). names_a_session entry.0) (λ (row : Row). (row_name row, heard_on row.kind)) rows
    ∙ how_many_agree (λ row. session_name row.kind row.discr) rows

-- a list of images has one more
pub images_added : {X Y : Type 0} (f : X → Y) (xs : List X) (place : ℕ) (x : X) (ys more : List Y) → HasSame (map f xs) ys
    → HasSame (f x ∷ ys) more
    → HasSame (map f (insert xs place x)) more
images_added f xs place x ys more same one test =
    one test ∙ how_many-cons test (f x) ys ∙ ap (λ n. cond (test (f x)) 1 0 + n) (same test ∙ how_many-map test f xs)
    ∙ sym (how_many-map test f (insert xs place x) ∙ how_many-insert (λ y. test (f y)) xs place x)

-- .. or those of the kept
kept_swap : (a b c : Bool) → (a && (b && c)) ≡ (b && (a && c))
kept_swap true true c = refl
kept_swap true false c = refl
kept_swap false true c = refl
kept_swap false false c = refl

pub filtered : {X Y : Type 0} (has : X → Bool) (f : X → Y) (test : Y → Bool) (xs : List X)
    → how_many test (map f (filter has xs)) ≡ how_many (λ x. has x && test (f x)) xs
filtered has f test xs = how_many-map test f (filter has xs) ∙ how_many-filter (λ x. test (f x)) has xs

pub names_kept : {X Y : Type 0} (keep : X → Bool) (f : X → Y) (stays : Y → Bool) → ((x : X) → stays (f x) ≡ keep x)
    → (xs : List X) (ys : List Y)
    → HasSame (map f xs) ys → HasSame (map f (filter keep xs)) (filter stays ys)
names_kept keep f stays agree xs ys same test =
    how_many-filter test stays ys ∙ same (λ y. stays y && test y) ∙ how_many-map (λ y. stays y && test y) f xs
    ∙ how_many_agree (λ x. ap (λ b. b && test (f x)) (agree x)) xs
    ∙ sym (how_many-map test f (filter keep xs) ∙ how_many-filter (λ x. test (f x)) keep xs)

pub images_kept : {X Y : Type 0} (has keep : X → Bool) (f : X → Y) (stays : Y → Bool) → ((x : X) → stays (f x) ≡ keep x)
    → (xs : List X) (ys : List Y)
    → HasSame (map f (filter has xs)) ys → HasSame (map f (filter has (filter keep xs))) (filter stays ys)
images_kept has keep f stays agree xs ys same test =
    how_many-filter test stays ys ∙ same (λ y. stays y && test y) ∙ filtered has f (λ y. stays y && test y) xs
    ∙ how_many_agree (λ x. ap (λ b. has x && (b && test (f x))) (agree x) ∙ kept_swap (has x) (keep x) (test (f x))) xs
    ∙ sym (filtered has f test (filter keep xs) ∙ how_many-filter (λ x. has x && test (f x)) keep xs)
