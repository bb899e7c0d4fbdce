-- One more in an ascending list of things with numbers: the entries of a map, and what stays true of each.
use Rattle.bfd_script.proofs.Common.{◌≡◌, ℕ, ◌+◌, ◌<◌, ◌==◌, Bool, true, false, ◌||◌, cond, List, [], ◌∷◌, length, Option, Some, refl}
use Rattle.bfd_script.proofs.Common.{arith, nat_lt, nat_tests, is_some, list_any, AllByRecursion, values_of, lookup, is_at, insert_entry}
use Rattle.bfd_script.proofs.Common.{nat_cmp, is_eq, match_ordering, or_parts, nat_level, by_number, has_number, insert_by, Less, Equal}
use Rattle.bfd_script.proofs.Common.{Greater}

-- ---- the entries

known_step : {X : Type 0} (at same has : Bool) (x : X) (o : Option X) → at ≡ same → is_some o ≡ has
    → is_some (cond at (Some x) o) ≡ (same || has)
known_step at true has x o e rest = rw e refl
known_step at false has x o e rest = rw e rest

-- a look-up by a number finds an entry where one has it
known : {X : Type 0} (number : X → ℕ) (k : ℕ) (xs : List X)
    → is_some (lookup (is_at (nat_cmp k)) (by_number number xs)) ≡ has_number number k xs
known number k [] = refl
known number k (x ∷ xs) =
    known_step (is_eq (nat_cmp k (number x))) (k == number x) (has_number number k xs) x (lookup (is_at (nat_cmp k)) (by_number number xs))
    (nat_level k (number x)) (known number k xs)

pub known_among : {X : Type 0} (number : X → ℕ) (k : ℕ) {entries : List (ℕ × X)} → entries ≡ by_number number (values_of entries)
    → is_some (lookup (is_at (nat_cmp k)) entries) ≡ has_number number k (values_of entries)
known_among number k {entries} keyed = cc (known number k (values_of entries))

entry_step : {X : Type 0} (number : X → ℕ) (less same : Bool) {has : Bool} (x y : X) (ys rest : List X) {es : List (ℕ × X)}
    → (same || has) ≡ false → (has ≡ false → es ≡ by_number number rest)
    → match_ordering (cond less Less (cond same Equal Greater)) ((number x, x) ∷ (number y, y) ∷ by_number number ys)
    ((number y, x) ∷ by_number number ys) ((number y, y) ∷ es)
    ≡ by_number number (cond less (x ∷ y ∷ ys) (y ∷ rest))
entry_step number true same x y ys rest none next = refl
entry_step number false true x y ys rest none next = cc
entry_step number false false x y ys rest none next = cc (next none)

-- the map's insertion is that of the list
pub entry_inserted : {X : Type 0} (number : X → ℕ) (x : X) (xs : List X) → has_number number (number x) xs ≡ false
    → insert_entry nat_cmp (by_number number xs) (number x) x ≡ by_number number (insert_by number x xs)
entry_inserted number x [] none = refl
entry_inserted number x (y ∷ ys) none =
    entry_step number (nat_lt (number x) (number y)) (number x == number y) x y ys (insert_by number x ys) none (entry_inserted number x ys)

-- the things of entries by number
pub values_by : {X : Type 0} (number : X → ℕ) (xs : List X) → values_of (by_number number xs) ≡ xs
values_by number [] = refl
values_by number (x ∷ xs) = cc (values_by number xs)

pub entries_more : {X : Type 0} (number : X → ℕ) (x : X) {entries more : List (ℕ × X)} → entries ≡ by_number number (values_of entries)
    → has_number number (number x) (values_of entries) ≡ false → more ≡ insert_entry nat_cmp entries (number x) x
    → (more ≡ by_number number (insert_by number x (values_of entries))) × (values_of more ≡ insert_by number x (values_of entries))
entries_more number x {entries} {more} keyed none e =
    let by : more ≡ by_number number (insert_by number x (values_of entries)) =
    cc (entry_inserted number x (values_of entries) none) in
    (by, cc (values_by number (insert_by number x (values_of entries))))

-- ---- what stays true

any_step : (b p q r : Bool) → cond b (p || (q || r)) (q || (p || r)) ≡ (p || (q || r))
any_step true p q r = refl
any_step false true true r = refl
any_step false true false r = refl
any_step false false q r = refl

any_cond : {X : Type 0} (test : X → Bool) (b : Bool) (c d : X) (cs rest : List X) → list_any test rest ≡ (test c || list_any test cs)
    → list_any test (cond b (c ∷ d ∷ cs) (d ∷ rest)) ≡ (test c || (test d || list_any test cs))
any_cond test true c d cs rest e = refl
any_cond test false c d cs rest e = rw e (any_step false (test c) (test d) (list_any test cs))

-- one of the longer list passes a test where the new one or an old one does
pub any_inserted : {X : Type 0} (number : X → ℕ) (test : X → Bool) (x : X) (xs : List X)
    → list_any test (insert_by number x xs) ≡ (test x || list_any test xs)
any_inserted number test x [] = refl
any_inserted number test x (y ∷ ys) = any_cond test (nat_lt (number x) (number y)) x y ys (insert_by number x ys)
    (any_inserted number test x ys)

each_cond : {X : Type 0} (P : X → Type 0) (b : Bool) {c d : X} (ds rest : List X) → P c → P d → AllByRecursion P ds → AllByRecursion P rest
    → AllByRecursion P (cond b (c ∷ d ∷ ds) (d ∷ rest))
each_cond P true ds rest new here all more = (new, (here, all))
each_cond P false ds rest new here all more = (here, more)

pub each_inserted : {X : Type 0} (number : X → ℕ) (P : X → Type 0) {x : X} (xs : List X) → P x → AllByRecursion P xs
    → AllByRecursion P (insert_by number x xs)
each_inserted number P [] new all = (new, tt)
each_inserted number P {x} (y ∷ ys) new all =
    each_cond P (nat_lt (number x) (number y)) ys (insert_by number x ys) new all.0 all.1 (each_inserted number P ys new all.1)

length_cond : {X : Type 0} (b : Bool) (c d : X) (ds rest : List X) → length rest ≡ 1 + length ds
    → length (cond b (c ∷ d ∷ ds) (d ∷ rest)) ≡ 1 + length (d ∷ ds)
length_cond true c d ds rest e = omega arith
length_cond false c d ds rest e = omega arith

pub length_inserted : {X : Type 0} (number : X → ℕ) (x : X) (xs : List X) → length (insert_by number x xs) ≡ 1 + length xs
length_inserted number x [] = refl
length_inserted number x (y ∷ ys) = length_cond (nat_lt (number x) (number y)) x y ys (insert_by number x ys) (length_inserted number x ys)

-- none passes the test
pub none_any : {X : Type 0} (test : X → Bool) (xs : List X) → list_any test xs ≡ false → AllByRecursion (λ x. test x ≡ false) xs
none_any test [] h = tt
none_any test (x ∷ xs) h = let e = or_parts (test x) (list_any test xs) h in (e.0, none_any test xs e.1)

-- below, equal or above
pub is_above : (a b : ℕ) → nat_lt a b ≡ false → (a == b) ≡ false → b < a
is_above a b not_below other = grind (arith, nat_tests)
