-- Sessions that rise before a map of others: what a look-up finds, and what a change of one does.
use Rattle.bfd_script.proofs.Common.{◌≡◌, ℕ, ◌+◌, ◌-◌, ◌<◌, ◌==◌, Bool, true, false, cond, not, List, [], ◌∷◌, ◌++◌, length, get_or, set}
use Rattle.bfd_script.proofs.Common.{Some, None, zero, suc, refl, sym, ap, ◌∙◌, arith, nat_lt, subst, append_assoc, length-append}
use Rattle.bfd_script.proofs.Common.{nat_tests, ltb-true, find, AllByRecursion, position_or_len, slice_get, values_of, lookup, is_at}
use Rattle.bfd_script.proofs.Common.{insert_entry, nat_cmp, nat_level, place_of, numbers_differ, SessionConfig, discr_of, by_discr, changed}
use Rattle.bfd_script.proofs.Common.{has_discr, inserted, AreRows, Ascends, append-nil}
use Rattle.std.proofs.lemmas.List.Quantifiers.{position-Some}
use Rattle.std.proofs.lemmas.Option.{get_or_from_slice_get}
use Rattle.bfd_script.proofs.Giving.{Keeps, ascends_changed, length_changed}
use Rattle.bfd_script.proofs.Inserting.{ascends_inserted}
use Rattle.bfd_script.proofs.Numbered.{entry_inserted, length_inserted, values_by}

-- ---- the entries of both

by_discr_more : (xs ys : List SessionConfig) → by_discr (xs ++ ys) ≡ by_discr xs ++ by_discr ys
by_discr_more [] ys = refl
by_discr_more (x ∷ xs) ys = cc (by_discr_more xs ys)

pub values_more : (xs : List SessionConfig) (es : List (ℕ × SessionConfig)) → values_of (by_discr xs ++ es) ≡ xs ++ values_of es
values_more [] es = refl
values_more (x ∷ xs) es = cc (values_more xs es)

length_by : (xs : List SessionConfig) (es : List (ℕ × SessionConfig)) → length (by_discr xs ++ es) ≡ length xs + length es
length_by [] es = omega arith
length_by (x ∷ xs) es = omega (arith, length_by xs es)

length_values : (es : List (ℕ × SessionConfig)) → length es ≡ length (values_of es)
length_values [] = refl
length_values (e ∷ es) = omega (arith, length_values es)

-- ---- those that rise

each_front : (P : SessionConfig → Type 0) (xs ys : List SessionConfig) → AllByRecursion P (xs ++ ys) → AllByRecursion P xs
each_front P [] ys all = tt
each_front P (x ∷ xs) ys all = (all.0, each_front P xs ys all.1)

pub rising_alone : (xs ys : List SessionConfig) → Ascends (xs ++ ys) → Ascends xs
rising_alone [] ys up = tt
rising_alone (x ∷ xs) ys up = (each_front (λ y. discr_of x < discr_of y) xs ys up.0, rising_alone xs ys up.1)

all_below : (k : ℕ) (x : SessionConfig) (xs : List SessionConfig) (d : SessionConfig) → Ascends (x ∷ xs)
    → discr_of (get_or (x ∷ xs) (length xs) d) < k
    → AllByRecursion (λ x. discr_of x < k) (x ∷ xs)
all_below k x [] d up low = (low, tt)
all_below k x (y ∷ ys) d up low =
    let rest = all_below k y ys d up.1 low in
    (omega arith, rest)

-- one above the last is above all
pub below_last : (k : ℕ) {n : ℕ} (xs : List SessionConfig) {l : SessionConfig} → Ascends xs → slice_get xs (length xs - 1) ≡ Some l
    → n ≡ discr_of l → nat_lt n k ≡ true
    → AllByRecursion (λ x. discr_of x < k) xs
below_last k [] up is e low = tt
below_last k {n} (x ∷ xs) {l} up is e low =
    let end : length xs ≡ length (x ∷ xs) - 1 = omega arith in
    let last = get_or_from_slice_get (x ∷ xs) (length xs) l l (cc) in
    all_below k x xs l up (omega (arith, ltb-true n k low, ap discr_of last ∙ sym e))

-- ---- the place of a discriminator

missed_here : (same : Bool) (a b : ℕ) → cond (nat_lt (cond (not same) (1 + a) 0) (suc b)) (Some (cond (not same) (1 + a) 0)) None ≡ None
    → same ≡ false
missed_here true a b e = grind (arith, nat_tests)
missed_here false a b e = refl

missed_next : (same : Bool) (a b : ℕ) → same ≡ false
    → cond (nat_lt (cond (not same) (1 + a) 0) (suc b)) (Some (cond (not same) (1 + a) 0)) None ≡ None
    → cond (nat_lt a b) (Some a) None ≡ None
missed_next true a b other e = cc
missed_next false a b other e = grind (arith, nat_tests)

-- where there is none, no session has it
missed : (k : ℕ) (xs : List SessionConfig) → place_of k xs ≡ None → AllByRecursion (λ x. (k == discr_of x) ≡ false) xs
missed k [] e = tt
missed k (x ∷ xs) e =
    let a = position_or_len (λ c. k == discr_of c) xs in
    let other = missed_here (k == discr_of x) a (length xs) e in
    (other, missed k xs (missed_next _ a (length xs) other e))

below_step : (same : Bool) (a b : ℕ) → same ≡ false → cond (nat_lt a b) (Some a) None ≡ None
    → cond (nat_lt (cond (not same) (1 + a) 0) (suc b)) (Some (cond (not same) (1 + a) 0)) None ≡ None
below_step true a b other e = cc
below_step false a b other e = grind (arith, nat_tests)

-- one above all has no place
pub above_place : (k : ℕ) (xs : List SessionConfig) → AllByRecursion (λ x. discr_of x < k) xs → place_of k xs ≡ None
above_place k [] all = refl
above_place k (x ∷ xs) all = below_step _ (position_or_len (λ c. k == discr_of c) xs) (length xs) (numbers_differ _ k all.0)
    (above_place k xs all.1)

-- ---- a look-up

lookup_past : (k : ℕ) (xs : List SessionConfig) (es : List (ℕ × SessionConfig)) → AllByRecursion (λ x. (k == discr_of x) ≡ false) xs
    → lookup (is_at (nat_cmp k)) (by_discr xs ++ es) ≡ lookup (is_at (nat_cmp k)) es
lookup_past k [] es all = refl
lookup_past k (x ∷ xs) es all = rw (nat_level k (discr_of x) ∙ all.0) (lookup_past k xs es all.1)

pub look_past : (k : ℕ) (xs : List SessionConfig) (es : List (ℕ × SessionConfig)) → place_of k xs ≡ None
    → lookup (is_at (nat_cmp k)) (by_discr xs ++ es) ≡ lookup (is_at (nat_cmp k)) es
look_past k xs es e = lookup_past k xs es (missed k xs e)

lookup_first : (k i : ℕ) (xs : List SessionConfig) (es : List (ℕ × SessionConfig)) (d : SessionConfig) → i < length xs
    → (k == discr_of (get_or xs i d)) ≡ true
    → ((j : ℕ) → j < i → (k == discr_of (get_or xs j d)) ≡ false) → lookup (is_at (nat_cmp k)) (by_discr xs ++ es) ≡ Some (get_or xs i d)
lookup_first k i [] es d within here before = absurd (omega arith)
lookup_first k zero (x ∷ xs) es d within here before = rw (nat_level k (discr_of x) ∙ here) refl
lookup_first k (suc i) (x ∷ xs) es d within here before =
    rw (nat_level k (discr_of x) ∙ before 0 (omega arith))
    (lookup_first k i xs es d (omega arith) here (λ j lt. before (suc j) (omega arith)))

pub look_at : (k : ℕ) {i : ℕ} (xs : List SessionConfig) (es : List (ℕ × SessionConfig)) (d : SessionConfig) → place_of k xs ≡ Some i
    → lookup (is_at (nat_cmp k)) (by_discr xs ++ es) ≡ Some (get_or xs i d)
look_at k {i} xs es d e =
    let p = position-Some (λ c. k == discr_of c) xs i d e in
    lookup_first k i xs es d p.0 p.1 p.2

-- ---- a change of one

changed_past : (f : SessionConfig → SessionConfig) (k : ℕ) (xs ys : List SessionConfig) → AllByRecursion (λ x. (k == discr_of x) ≡ false) xs
    → changed k f (xs ++ ys) ≡ xs ++ changed k f ys
changed_past f k [] ys all = refl
changed_past f k (x ∷ xs) ys all = rw all.0 (cc (changed_past f k xs ys all.1))

changed_first : (f : SessionConfig → SessionConfig) (k i : ℕ) (xs ys : List SessionConfig) (d : SessionConfig) → i < length xs
    → (k == discr_of (get_or xs i d)) ≡ true
    → ((j : ℕ) → j < i → (k == discr_of (get_or xs j d)) ≡ false) → changed k f (xs ++ ys) ≡ set xs i (f (get_or xs i d)) ++ ys
changed_first f k i [] ys d within here before = absurd (omega arith)
changed_first f k zero (x ∷ xs) ys d within here before = rw here refl
changed_first f k (suc i) (x ∷ xs) ys d within here before =
    rw (before 0 (omega arith)) (cc (changed_first f k i xs ys d (omega arith) here (λ j lt. before (suc j) (omega arith))))

-- what a change leaves in both
pub record AreChanged (k : ℕ) (f : SessionConfig → SessionConfig) (xs : List SessionConfig) (es : List (ℕ × SessionConfig))
    (ys : List SessionConfig) (fs : List (ℕ × SessionConfig)) : Type 0 where
  pub entries : by_discr ys ++ fs ≡ by_discr (changed k f (values_of (by_discr xs ++ es)))
  pub rows : AreRows ys fs

are_changed : {f : SessionConfig → SessionConfig} → Keeps f
    → (k : ℕ) {xs : List SessionConfig} (ys : List SessionConfig) {es fs : List (ℕ × SessionConfig)} → AreRows xs es
    → fs ≡ by_discr (values_of fs) → changed k f (xs ++ values_of es) ≡ ys ++ values_of fs → AreChanged k f xs es ys fs
are_changed {f} kept k {xs} ys {es} {fs} were keyed e =
    let long : length (ys ++ values_of fs) ≡ length (xs ++ values_of es) = cc (length_changed f k (xs ++ values_of es)) in
    let both : length (by_discr ys ++ fs) ≡ length (by_discr xs ++ es) =
    cc (length_values (by_discr ys ++ fs), values_more ys fs, values_more xs es, length_values (by_discr xs ++ es)) in
    let few = were.few in
    record {
      entries = cc (by_discr_more ys (values_of fs), values_more xs es);
      rows = record {
        keyed = keyed;
        ascends = subst Ascends e (ascends_changed kept k (xs ++ values_of es) were.ascends);
        few = omega (arith, both, length_by ys fs, length_by xs es, few);
      };
    }

-- one that rose became another
pub changed_at : {f : SessionConfig → SessionConfig} → Keeps f
    → (k : ℕ) {i : ℕ} {w : SessionConfig} {xs ys : List SessionConfig} {es : List (ℕ × SessionConfig)} (d : SessionConfig) → AreRows xs es
    → place_of k xs ≡ Some i → w ≡ f (get_or xs i d) → ys ≡ set xs i w → AreChanged k f xs es ys es
changed_at {f} kept k {i} {xs} {ys} {es} d were place is new =
    let p = position-Some (λ c. k == discr_of c) xs i d place in
    are_changed kept k ys were were.keyed (cc (changed_first f k i xs (values_of es) d p.0 p.1 p.2))

-- one of the others became another
pub changed_past_rising : {f : SessionConfig → SessionConfig} → Keeps f
    → (k : ℕ) {xs : List SessionConfig} {es fs : List (ℕ × SessionConfig)} → AreRows xs es
    → place_of k xs ≡ None → fs ≡ by_discr (changed k f (values_of es)) → AreChanged k f xs es xs fs
changed_past_rising {f} kept k {xs} {es} {fs} were place e =
    let are : values_of fs ≡ changed k f (values_of es) = cc (values_by discr_of (changed k f (values_of es))) in
    are_changed kept k xs were (cc) (cc (changed_past f k xs (values_of es) (missed k xs place)))

find_behind : (k : ℕ) (xs : List SessionConfig) (es : List (ℕ × SessionConfig)) → AllByRecursion (λ x. (k == discr_of x) ≡ false) xs
    → find (λ c. k == discr_of c) (values_of (by_discr xs ++ es)) ≡ find (λ c. k == discr_of c) (values_of es)
find_behind k [] es all = refl
find_behind k (x ∷ xs) es all = rw all.0 (find_behind k xs es all.1)

-- a search among both finds what one among the others does
pub find_past : (k : ℕ) (xs : List SessionConfig) (es : List (ℕ × SessionConfig)) → place_of k xs ≡ None
    → find (λ c. k == discr_of c) (values_of (by_discr xs ++ es)) ≡ find (λ c. k == discr_of c) (values_of es)
find_past k xs es place = find_behind k xs es (missed k xs place)

find_first : (k i : ℕ) (xs : List SessionConfig) (es : List (ℕ × SessionConfig)) (d : SessionConfig) → i < length xs
    → (k == discr_of (get_or xs i d)) ≡ true
    → ((j : ℕ) → j < i → (k == discr_of (get_or xs j d)) ≡ false)
    → find (λ c. k == discr_of c) (values_of (by_discr xs ++ es)) ≡ Some (get_or xs i d)
find_first k i [] es d within here before = absurd (omega arith)
find_first k zero (x ∷ xs) es d within here before = rw here refl
find_first k (suc i) (x ∷ xs) es d within here before =
    rw (before 0 (omega arith)) (find_first k i xs es d (omega arith) here (λ j lt. before (suc j) (omega arith)))

pub find_at : (k : ℕ) {i : ℕ} (xs : List SessionConfig) (es : List (ℕ × SessionConfig)) (d : SessionConfig) → place_of k xs ≡ Some i
    → find (λ c. k == discr_of c) (values_of (by_discr xs ++ es)) ≡ Some (get_or xs i d)
find_at k {i} xs es d e =
    let p = position-Some (λ c. k == discr_of c) xs i d e in
    find_first k i xs es d p.0 p.1 p.2

-- ---- one more

-- a session above all others goes to the end
pub inserted_last : (c : SessionConfig) (xs : List SessionConfig) → AllByRecursion (λ x. discr_of x < discr_of c) xs
    → inserted c xs ≡ xs ++ c ∷ []
inserted_last c [] all = refl
inserted_last c (x ∷ xs) all =
    let later : nat_lt (discr_of c) (discr_of x) ≡ false = grind (arith, nat_tests) in
    rw later (cc (inserted_last c xs all.1))

-- both with the new one
pub record AreMore (c : SessionConfig) (before : List (ℕ × SessionConfig)) (ys : List SessionConfig)
    (fs : List (ℕ × SessionConfig)) : Type 0 where
  pub entries : by_discr ys ++ fs ≡ insert_entry nat_cmp before (discr_of c) c
  pub rows : AreRows ys fs

are_more : (c : SessionConfig) (cs : List SessionConfig) {before : List (ℕ × SessionConfig)}
    (ys : List SessionConfig) {fs : List (ℕ × SessionConfig)} → before ≡ by_discr cs
    → Ascends cs → length before < 65536 → has_discr (discr_of c) cs ≡ false → fs ≡ by_discr (values_of fs)
    → ys ++ values_of fs ≡ inserted c cs → AreMore c before ys fs
are_more c cs {before} ys {fs} is up room none keyed e =
    let long : length (ys ++ values_of fs) ≡ 1 + length cs = cc (length_inserted discr_of c cs) in
    let many : length before ≡ length cs = cc (length_values before, values_by discr_of cs) in
    record {
      entries = cc (by_discr_more ys (values_of fs), entry_inserted discr_of c cs none);
      rows = record {
        keyed = keyed;
        ascends = subst Ascends (sym e) (ascends_inserted c cs none up);
        few = omega (arith, long, many, length-append ys (values_of fs), length_values fs, room);
      };
    }

-- .. where it is above all
pub pushed_last : (c : SessionConfig) {k : ℕ} {xs seen ys : List SessionConfig}
    (es : List (ℕ × SessionConfig)) {before : List (ℕ × SessionConfig)} → AreRows xs es → by_discr xs ++ es ≡ before
    → length es ≡ 0 → seen ≡ xs → AllByRecursion (λ x. discr_of x < k) seen → k ≡ discr_of c → length before < 65536
    → has_discr (discr_of c) (values_of before) ≡ false
    → ys ≡ xs ++ c ∷ [] → AreMore c before ys es
pushed_last c (e ∷ es) were view empty same low key room none new = absurd (omega (arith, empty))
pushed_last c {xs} {ys} [] {before} were view empty same low key room none new =
    let is : before ≡ by_discr xs = cc (append-nil (by_discr xs)) in
    let below : AllByRecursion (λ x. discr_of x < discr_of c) xs =
    rw (← key) (rw (← same) low) in
    are_more c xs ys is (subst Ascends (append-nil xs) were.ascends) room (cc (values_by discr_of xs)) refl
    (cc (append-nil ys, inserted_last c xs below))

-- .. where all are in the map
pub put_among : (c : SessionConfig) {k : ℕ} {xs ys : List SessionConfig} {es all fs before : List (ℕ × SessionConfig)} → AreRows xs es
    → by_discr xs ++ es ≡ before
    → k ≡ discr_of c → length before < 65536 → has_discr (discr_of c) (values_of before) ≡ false
    → ys ≡ [] → all ≡ by_discr xs ++ es → fs ≡ insert_entry nat_cmp all k c → AreMore c before ys fs
put_among c {xs} {ys} {es} {fs} {before} were view key room none gone put e =
    let cs = xs ++ values_of es in
    let is : before ≡ by_discr cs = cc (by_discr_more xs (values_of es)) in
    let free : has_discr (discr_of c) cs ≡ false = cc (values_by discr_of cs) in
    let by : fs ≡ by_discr (inserted c cs) = cc (entry_inserted discr_of c cs free) in
    let values : values_of fs ≡ inserted c cs = cc (values_by discr_of (inserted c cs)) in
    are_more c cs ys is were.ascends room free (cc) (cc)

-- ---- the last of those that rise goes into the map

behind : (xs ys : List SessionConfig) → Ascends (xs ++ ys) → Ascends ys
behind [] ys up = up
behind (x ∷ xs) ys up = behind xs ys up.1

insert_first : (c : SessionConfig) (vs : List SessionConfig) → AllByRecursion (λ v. discr_of c < discr_of v) vs
    → insert_entry nat_cmp (by_discr vs) (discr_of c) c ≡ (discr_of c, c) ∷ by_discr vs
insert_first c [] all = refl
insert_first c (v ∷ vs) all =
    let less : nat_lt (discr_of c) (discr_of v) ≡ true = grind (arith, nat_tests) in
    rw less refl

pub popped : (c : SessionConfig) {k : ℕ} {all : List SessionConfig} (xs : List SessionConfig) {es fs : List (ℕ × SessionConfig)}
    → AreRows all es → all ≡ xs ++ c ∷ []
    → k ≡ discr_of c → fs ≡ insert_entry nat_cmp es k c → record { entries : by_discr xs ++ fs ≡ by_discr all ++ es; rows : AreRows xs fs }
popped c {all} xs {es} {fs} were last key e =
    let vs = values_of es in
    let whole : all ++ vs ≡ xs ++ c ∷ vs = cc (append_assoc xs (c ∷ []) vs) in
    let up = subst Ascends whole were.ascends in
    let is : fs ≡ (discr_of c, c) ∷ es = cc (insert_first c vs (behind xs (c ∷ vs) up).0) in
    let values : values_of fs ≡ c ∷ vs = cc in
    let long = ap (λ l. length l) last ∙ length-append xs (c ∷ []) in
    let more : length fs ≡ suc (length es) = cc in
    let few = were.few in
    record {
      entries = cc (append_assoc (by_discr xs) ((discr_of c, c) ∷ []) es, by_discr_more xs (c ∷ []));
      rows = record {
        keyed = cc;
        ascends = rw values up;
        few = omega (arith, long, more, few);
      };
    }

none_above : (k : ℕ) (xs : List SessionConfig) → AllByRecursion (λ x. discr_of x < k) xs → has_discr k xs ≡ false
none_above k [] all = refl
none_above k (x ∷ xs) all = rw (numbers_differ _ k all.0, none_above k xs all.1) refl

-- one above all others, with no map besides, is new
pub next_new : (k : ℕ) {xs seen : List SessionConfig} (es : List (ℕ × SessionConfig)) {before : List (ℕ × SessionConfig)}
    → by_discr xs ++ es ≡ before → length es ≡ 0 → seen ≡ xs → AllByRecursion (λ x. discr_of x < k) seen
    → has_discr k (values_of before) ≡ false
next_new k {xs} [] view empty same all =
    let values : values_of (by_discr xs ++ []) ≡ xs = values_more xs [] ∙ append-nil xs in
    cc (ap (λ es. values_of es) view, values, none_above k xs (rw (← same) all))
next_new k (e ∷ es) view empty same all = absurd (omega (arith, empty))
