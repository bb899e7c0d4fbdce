-- One more session or reflector, or one less: the order, and the rows.
use Rattle.bfd_session.proofs.Common.{◌≡◌, ◌<◌, ◌≤◌, ◌==◌, ◌++◌, ◌+◌, ◌-◌, ◌||◌, ℕ, zero, suc, Bool, true, false, cond, not, List, [], ◌∷◌}
use Rattle.bfd_session.proofs.Common.{length, map, get_or, refl, sym, ap, subst, ◌∙◌, arith, None, Some, if◌then◌else◌, nat_lt, unwrap_or}
use Rattle.bfd_session.proofs.Common.{AllByRecursion, filter, position, position_from, ne_eqb, nat_tests, Row, SessionConfig, discr_of}
use Rattle.bfd_session.proofs.Common.{Ascends, row_of, rows_of, row_of_reflector, table_of, Reflector}
use Rattle.std.specs.List.{insert, remove, list_any}
use Rattle.std.specs.List.Sorted.{IsPartitionedBy, IsPartitionPoint}
use Rattle.std.proofs.lemmas.Bool.{eqb-true}
use Rattle.std.proofs.lemmas.List.{length-map}
use Rattle.std.proofs.lemmas.List.Edits.{length-insert, length-remove, insert-append_left, insert-append_right, remove-append_left}
use Rattle.std.proofs.lemmas.List.Edits.{remove-append_right}
use Rattle.std.proofs.lemmas.Iterator.Adapters.{position_from-zero}
use Rattle.std.proofs.lemmas.List.Folds.{list_any_at}
use Rattle.bfd_packet.proofs.Turned.{number_turned}
use Rattle.bfd_sbfd.specs.Reflect.{Ascends as PoolAscends}
use Rattle.bfd_demux.specs.Rows.{add_fault}
use Rattle.bfd_demux.specs.Table.{how_many}
use Rattle.bfd_demux.proofs.Ascending.{front_passes, how_many-cons}
use Rattle.bfd_demux.proofs.Changing.{removed_is_kept}
use Rattle.bfd_demux.proofs.Indexing.{fits}
use Rattle.bfd_session.specs.Changes.{place_for, pool_place_for}
use Rattle.bfd_session.specs.Rows.{place_of}
use Rattle.bfd_session.specs.Tables.{IsTableOf}
use Rattle.bfd_session.proofs.Tables.{length_table}

-- ---- lists in ascending order of a number

-- the number of each is below that of each later one
abbrev pub Up : {X : Type 0} → (X → ℕ) → List X → Type 0
Up key [] = Unit {0}
Up key (x ∷ xs) = AllByRecursion (λ later. key x < key later) xs × Up key xs

pub sessions_up : (cs : List SessionConfig) → Ascends cs → Up discr_of cs
sessions_up [] up = tt
sessions_up (c ∷ cs) up = (up.0, sessions_up cs up.1)

up_sessions : (cs : List SessionConfig) → Up discr_of cs → Ascends cs
up_sessions [] up = tt
up_sessions (c ∷ cs) up = (up.0, up_sessions cs up.1)

pub pool_up : (rs : List Reflector) → PoolAscends rs → Up (λ (r : Reflector). r.discr) rs
pool_up [] up = tt
pool_up (r ∷ rs) up = (up.0, pool_up rs up.1)

up_pool : (rs : List Reflector) → Up (λ (r : Reflector). r.discr) rs → PoolAscends rs
up_pool [] up = tt
up_pool (r ∷ rs) up = (up.0, up_pool rs up.1)

mapped_each : (P : ℕ → Type 0) (cs : List SessionConfig) → AllByRecursion (λ c. P (discr_of c)) cs → AllByRecursion P (map discr_of cs)
mapped_each P [] h = tt
mapped_each P (c ∷ cs) h = (h.0, mapped_each P cs h.1)

pub discrs_up : (cs : List SessionConfig) → Ascends cs → Up (λ (n : ℕ). n) (map discr_of cs)
discrs_up [] up = tt
discrs_up (c ∷ cs) up = (mapped_each (λ n. discr_of c < n) cs up.0, discrs_up cs up.1)

module _ {X : Type 0} (key : X → ℕ) where
  above_at : (d : ℕ) (xs : List X) (k : ℕ) (e : X) → AllByRecursion (λ x. d < key x) xs → k < length xs → d < key (get_or xs k e)
  above_at d [] k e h within = absurd (omega arith)
  above_at d (x ∷ xs) zero e h within = h.0
  above_at d (x ∷ xs) (suc k) e h within = above_at d xs k e h.1 (omega arith)

  up_rises : (xs : List X) (i j : ℕ) (d : X) → Up key xs → i ≤ j → j < length xs → key (get_or xs i d) ≤ key (get_or xs j d)
  up_rises [] i j d up le within = absurd (omega arith)
  up_rises (x ∷ xs) zero zero d up le within = omega arith
  up_rises (x ∷ xs) zero (suc j) d up le within = omega (arith, above_at (key x) xs j d up.0 (omega arith))
  up_rises (x ∷ xs) (suc i) zero d up le within = absurd (omega arith)
  up_rises (x ∷ xs) (suc i) (suc j) d up le within = up_rises xs i j d up.1 (omega arith) (omega arith)

  partitioned : (xs : List X) (discr : ℕ) → Up key xs → IsPartitionedBy (λ x. nat_lt (key x) discr) xs
  partitioned xs discr up i j d le within pass = lower_too (key (get_or xs i d)) (key (get_or xs j d)) discr
      (up_rises xs i j d up le within) pass
    where
      lower_too : (a b discr : ℕ) → a ≤ b → nat_lt b discr ≡ true → nat_lt a discr ≡ true
      lower_too a b discr below pass = grind (arith, nat_tests)

  -- what `partition_point` says is how many are lower
  pub lower_counted : (xs : List X) (discr i : ℕ) → i ≤ length xs → Up key xs
      → (IsPartitionedBy (λ x. nat_lt (key x) discr) xs
      → IsPartitionPoint (λ x. nat_lt (key x) discr ≡ true) (λ x. nat_lt (key x) discr ≡ false) xs i)
      → i ≡ how_many (λ x. nat_lt (key x) discr) xs
  lower_counted xs discr i within up says =
      let sides = says (partitioned xs discr up) in
      sym (front_passes (λ x. nat_lt (key x) discr) xs i within (λ k d lt. sides.0 k d (omega arith) lt) sides.1)

  none_lower : (discr : ℕ) (xs : List X) → AllByRecursion (λ x. discr < key x) xs → how_many (λ x. nat_lt (key x) discr) xs ≡ 0
  none_lower discr [] h = refl
  none_lower discr (x ∷ xs) h =
      let out : nat_lt (key x) discr ≡ false = not_lower (key x) discr h.0 in
      how_many-cons (λ y. nat_lt (key y) discr) x xs ∙ rw out (omega (arith, none_lower discr xs h.1))
    where
      not_lower : (a b : ℕ) → b < a → nat_lt a b ≡ false
      not_lower a b lt = grind (arith, nat_tests)

  each_higher : (low high : ℕ) (xs : List X) → low < high → AllByRecursion (λ x. high < key x) xs → AllByRecursion (λ x. low < key x) xs
  each_higher low high [] lt h = tt
  each_higher low high (x ∷ xs) lt h = (omega (arith, h.0), each_higher low high xs lt h.1)

  each_inserted : (P : X → Type 0) (xs : List X) (i : ℕ) (x : X) → AllByRecursion P xs → P x → AllByRecursion P (insert xs i x)
  each_inserted P [] zero x h p = (p, tt)
  each_inserted P [] (suc i) x h p = (p, tt)
  each_inserted P (y ∷ xs) zero x h p = (p, h)
  each_inserted P (y ∷ xs) (suc i) x h p = (h.0, each_inserted P xs i x h.1 p)

  -- one more, after the lower ones
  pub up_inserted : (xs : List X) (n : ℕ) (x : X) → n ≡ how_many (λ y. nat_lt (key y) (key x)) xs → Up key xs
      → AllByRecursion (λ y. (key x == key y) ≡ false) xs
      → Up key (insert xs n x)
  up_inserted [] n x e up other = rw e (tt, tt)
  up_inserted (y ∷ xs) n x e up other = by (nat_lt (key y) (key x)) refl (λ m same. up_inserted xs m x same up.1 other.1)
    where
      lower : (a b : ℕ) → nat_lt a b ≡ true → a < b
      lower a b is = grind (arith, nat_tests)

      higher : (a b : ℕ) → nat_lt a b ≡ false → (b == a) ≡ false → b < a
      higher a b is differs = grind (arith, nat_tests)

      by : (b : Bool) → nat_lt (key y) (key x) ≡ b → ((m : ℕ) → m ≡ how_many (λ z. nat_lt (key z) (key x)) xs → Up key (insert xs m x))
          → Up key (insert (y ∷ xs) n x)
      by true is rest =
          let more : n ≡ suc (how_many (λ z. nat_lt (key z) (key x)) xs) =
          e ∙ how_many-cons (λ z. nat_lt (key z) (key x)) y xs ∙ rw is (omega arith) in
          rw more (
            each_inserted (λ later. key y < key later) xs (how_many (λ z. nat_lt (key z) (key x)) xs) x up.0
                (lower (key y) (key x) is),
            rest (how_many (λ z. nat_lt (key z) (key x)) xs) refl,
          )
      by false is rest =
          let above : key x < key y = higher (key y) (key x) is other.0 in
          let all = each_higher (key x) (key y) xs above up.0 in
          let none : n ≡ 0 = e ∙ how_many-cons (λ z. nat_lt (key z) (key x)) y xs ∙ rw is (omega (arith, none_lower (key x) xs all)) in
          rw none ((above, all), up)

  each_kept : (P : X → Type 0) (keep : X → Bool) (xs : List X) → AllByRecursion P xs → AllByRecursion P (filter keep xs)
  each_kept P keep [] h = tt
  each_kept P keep (x ∷ xs) h = by (keep x) (each_kept P keep xs h.1)
    where
      by : (b : Bool) → AllByRecursion P (filter keep xs) → AllByRecursion P (cond b (x ∷ filter keep xs) (filter keep xs))
      by true rest = (h.0, rest)
      by false rest = rest

  up_kept : (keep : X → Bool) (xs : List X) → Up key xs → Up key (filter keep xs)
  up_kept keep [] up = tt
  up_kept keep (x ∷ xs) up = by (keep x) (each_kept (λ later. key x < key later) keep xs up.0) (up_kept keep xs up.1)
    where
      by : (b : Bool) → AllByRecursion (λ later. key x < key later) (filter keep xs) → Up key (filter keep xs)
          → Up key (cond b (x ∷ filter keep xs) (filter keep xs))
      by true all rest = (all, rest)
      by false all rest = rest

  none_equal : (discr : ℕ) (xs : List X) → AllByRecursion (λ x. discr < key x) xs → how_many (λ x. key x == discr) xs ≡ 0
  none_equal discr [] h = refl
  none_equal discr (x ∷ xs) h =
      let out : (key x == discr) ≡ false = ne_eqb (key x) discr (λ e. omega (arith, h.0, e)) in
      how_many-cons (λ y. key y == discr) x xs ∙ rw out (omega (arith, none_equal discr xs h.1))

  -- one at most has the number
  up_once : (discr : ℕ) (xs : List X) → Up key xs → how_many (λ x. key x == discr) xs ≤ 1
  up_once discr [] up = omega arith
  up_once discr (x ∷ xs) up = by (key x == discr) refl (up_once discr xs up.1)
    where
      by : (b : Bool) → (key x == discr) ≡ b → how_many (λ y. key y == discr) xs ≤ 1 → how_many (λ y. key y == discr) (x ∷ xs) ≤ 1
      by true is few =
          let same = eqb-true (key x) discr is in
          let none = none_equal discr xs (subst (λ d. AllByRecursion (λ later. d < key later) xs) same up.0) in
          let one : how_many (λ y. key y == discr) (x ∷ xs) ≡ 1 + how_many (λ y. key y == discr) xs =
          how_many-cons (λ y. key y == discr) x xs ∙ rw is refl in
          omega arith
      by false is few =
          let none : how_many (λ y. key y == discr) (x ∷ xs) ≡ 0 + how_many (λ y. key y == discr) xs =
          how_many-cons (λ y. key y == discr) x xs ∙ rw is refl in
          omega arith

  -- the list without the one that has it
  pub without : (discr : ℕ) (xs : List X) (i : ℕ) (d : X) → Up key xs → i < length xs → (key (get_or xs i d) == discr) ≡ true
      → remove xs i ≡ filter (λ x. not (key x == discr)) xs
  without discr xs i d up within has = removed_is_kept (λ x. key x == discr) xs i d within has (up_once discr xs up)

  pub up_removed : (discr : ℕ) (xs : List X) (i : ℕ) (d : X) → Up key xs → i < length xs → (key (get_or xs i d) == discr) ≡ true
      → Up key (remove xs i)
  up_removed discr xs i d up within has = rw (without discr xs i d up within has) (up_kept (λ x. not (key x == discr)) xs up)

-- what is taken out again
pub taken_out : {X : Type 0} (xs : List X) (i : ℕ) (x : X) → i ≤ length xs → remove (insert xs i x) i ≡ xs
taken_out [] zero x within = refl
taken_out [] (suc i) x within = absurd (omega arith)
taken_out (y ∷ xs) zero x within = refl
taken_out (y ∷ xs) (suc i) x within = ap (λ ys. y ∷ ys) (taken_out xs i x (omega arith))

pub map_inserted : {X Y : Type 0} (f : X → Y) (xs : List X) (i : ℕ) (x : X) → map f (insert xs i x) ≡ insert (map f xs) i (f x)
map_inserted f [] zero x = refl
map_inserted f [] (suc i) x = refl
map_inserted f (y ∷ xs) zero x = refl
map_inserted f (y ∷ xs) (suc i) x = ap (λ ys. f y ∷ ys) (map_inserted f xs i x)

pub map_removed : {X Y : Type 0} (f : X → Y) (xs : List X) (i : ℕ) → map f (remove xs i) ≡ remove (map f xs) i
map_removed f [] zero = refl
map_removed f [] (suc i) = refl
map_removed f (y ∷ xs) zero = refl
map_removed f (y ∷ xs) (suc i) = ap (λ ys. f y ∷ ys) (map_removed f xs i)

-- ---- what a search of the front finds

-- an element that passes, at its place
pub record At {X : Type 0} (test : X → Bool) (xs : List X) (n k : ℕ) : Type 0 where
  pub place : ℕ
  pub is : k ≡ n + place
  pub within : place < length xs
  pub passes : (d : X) → test (get_or xs place d) ≡ true

at_from : {X : Type 0} (test : X → Bool) (n : ℕ) {k : ℕ} (xs : List X) → position_from test n xs ≡ Some k → At test xs n k
at_from test n [] e = cc
at_from {X} test n {k} (x ∷ xs) e = by (test x) refl e (at_from test (n + 1) xs)
  where
    by : (b : Bool) → test x ≡ b → (if b then Some n else position_from test (n + 1) xs) ≡ Some k
        → (position_from test (n + 1) xs ≡ Some k → At test xs (n + 1) k) → At test (x ∷ xs) n k
    by true passed f later = record {
      place = 0;
      is = (let same : n ≡ k = ap (λ o. unwrap_or o k) f in omega (arith, same));
      within = omega arith;
      passes = λ d. passed;
    }
    by false passed f later = let a : At test xs (n + 1) k = later f in
        record { place = suc a.place; is = omega (arith, a.is); within = omega (arith, a.within); passes = a.passes }

pub found_at : {X : Type 0} (test : X → Bool) {k : ℕ} (xs : List X) → position test xs ≡ Some k → (k < length xs)
    × ((d : X) → test (get_or xs k d) ≡ true)
found_at test {k} xs e =
    let a : At test xs 0 k = at_from test 0 xs (sym (position_from-zero test xs) ∙ e) in
    let same : k ≡ a.place = omega (arith, a.is) in
    (omega (arith, a.within), λ d. ap (λ p. test (get_or xs p d)) same ∙ a.passes d)

absent_from : {X : Type 0} (test keep : X → Bool) → ((x : X) → test x ≡ false → keep x ≡ true) → (n : ℕ) (xs : List X)
    → position_from test n xs ≡ None
    → (filter keep xs ≡ xs) × (list_any test xs ≡ false)
absent_from test keep agree n [] e = (refl, refl)
absent_from test keep agree n (x ∷ xs) e = by (test x) refl e (absent_from test keep agree (n + 1) xs)
  where
    by : (b : Bool) → test x ≡ b → (if b then Some n else position_from test (n + 1) xs) ≡ None
        → (position_from test (n + 1) xs ≡ None → (filter keep xs ≡ xs) × (list_any test xs ≡ false)) → (filter keep (x ∷ xs) ≡ x ∷ xs)
        × (list_any test (x ∷ xs) ≡ false)
    by true is f rest = cc
    by false is f rest = let r = rest f in (rw (agree x is) (ap (λ ys. x ∷ ys) r.0), rw is r.1)

pub absent : {X : Type 0} (test keep : X → Bool) → ((x : X) → test x ≡ false → keep x ≡ true) → (xs : List X) → position test xs ≡ None
    → (filter keep xs ≡ xs) × (list_any test xs ≡ false)
absent test keep agree xs e = absent_from test keep agree 0 xs (sym (position_from-zero test xs) ∙ e)

-- ---- the rows of sessions and reflectors

pub session_row_added : (cs : List SessionConfig) (pool : List Reflector) (i : ℕ) (c : SessionConfig) → i ≤ length cs
    → table_of (insert cs i c) pool ≡ insert (table_of cs pool) i (row_of c)
session_row_added cs pool i c within = ap (λ rows. rows ++ map row_of_reflector pool) (map_inserted row_of cs i c)
    ∙ sym (insert-append_left (rows_of cs) (map row_of_reflector pool) i (row_of c) (omega (arith, length-map cs row_of)))

pub session_row_removed : (cs : List SessionConfig) (pool : List Reflector) (i : ℕ) → i < length cs
    → table_of (remove cs i) pool ≡ remove (table_of cs pool) i
session_row_removed cs pool i within = ap (λ rows. rows ++ map row_of_reflector pool) (map_removed row_of cs i)
    ∙ sym (remove-append_left (rows_of cs) (map row_of_reflector pool) i (omega (arith, length-map cs row_of)))

back_to : (n at : ℕ) → (n + at) - n ≡ at
back_to n at = omega arith

pub pool_row_added : (cs : List SessionConfig) (pool : List Reflector) (at : ℕ) (r : Reflector)
    → table_of cs (insert pool at r) ≡ insert (table_of cs pool) (length cs + at) (row_of_reflector r)
pool_row_added cs pool at r = ap (λ rows. rows_of cs ++ rows) (map_inserted row_of_reflector pool at r)
    ∙ sym (insert-append_right (rows_of cs) (map row_of_reflector pool) (length cs) (length cs + at) (row_of_reflector r)
    (length-map cs row_of) (omega arith)
    ∙ ap (λ n. rows_of cs ++ insert (map row_of_reflector pool) n (row_of_reflector r)) (back_to (length cs) at))

pub pool_row_removed : (cs : List SessionConfig) (pool : List Reflector) (at : ℕ)
    → table_of cs (remove pool at) ≡ remove (table_of cs pool) (length cs + at)
pool_row_removed cs pool at = ap (λ rows. rows_of cs ++ rows) (map_removed row_of_reflector pool at)
    ∙ sym (remove-append_right (rows_of cs) (map row_of_reflector pool) (length cs) (length cs + at) (length-map cs row_of) (omega arith)
    ∙ ap (λ n. rows_of cs ++ remove (map row_of_reflector pool) n) (back_to (length cs) at))

row_at : (cs : List SessionConfig) (ps : List Row) (k : ℕ) (d : Row) (e : SessionConfig) → k < length cs
    → get_or (rows_of cs ++ ps) k d ≡ row_of (get_or cs k e)
row_at [] ps k d e within = absurd (omega arith)
row_at (c ∷ cs) ps zero d e within = refl
row_at (c ∷ cs) ps (suc k) d e within = row_at cs ps k d e (omega arith)

reflector_at : (pool : List Reflector) (k : ℕ) (d : Row) (e : Reflector) → k < length pool
    → get_or (map row_of_reflector pool) k d ≡ row_of_reflector (get_or pool k e)
reflector_at [] k d e within = absurd (omega arith)
reflector_at (r ∷ pool) zero d e within = refl
reflector_at (r ∷ pool) (suc k) d e within = reflector_at pool k d e (omega arith)

after_sessions : (cs : List SessionConfig) (ps : List Row) (k n : ℕ) (d : Row) → n ≡ length cs + k
    → get_or (rows_of cs ++ ps) n d ≡ get_or ps k d
after_sessions [] ps k n d e = ap (λ m. get_or ps m d) (omega (arith, e))
after_sessions (c ∷ cs) ps k zero d e = absurd (omega arith)
after_sessions (c ∷ cs) ps k (suc n) d e = after_sessions cs ps k n d (omega arith)

one_session : (cs : List SessionConfig) → 0 < length cs → SessionConfig
one_session [] some = absurd (omega arith)
one_session (c ∷ cs) some = c

-- the row at the place has the discriminator that the session there has
pub session_row_discr : (cs : List SessionConfig) (pool : List Reflector) (rows : List Row) (k discr : ℕ) → rows ≡ table_of cs pool
    → k < length cs
    → ((e : SessionConfig) → (discr == discr_of (get_or cs k e)) ≡ true) → (d : Row) → (get_or rows k d).discr ≡ discr
session_row_discr cs pool rows k discr is within has d =
    let e = one_session cs (omega arith) in
    rw is (ap (λ (row : Row). row.discr) (row_at cs (map row_of_reflector pool) k d e within)
    ∙ sym (eqb-true discr (discr_of (get_or cs k e)) (has e)))

pub pool_row_discr : (cs : List SessionConfig) (pool : List Reflector) (rows : List Row) (at discr : ℕ) → rows ≡ table_of cs pool
    → at < length pool
    → ((e : Reflector) → ((get_or pool at e).discr == discr) ≡ true) → (d : Row) → (get_or rows (length cs + at) d).discr ≡ discr
pool_row_discr cs pool rows at discr is within has d =
    let e : Reflector = record { discr = 0; rx = 0; up = false } in
    rw is (ap (λ (row : Row). row.discr) (after_sessions cs (map row_of_reflector pool) at (length cs + at) d refl
    ∙ reflector_at pool at d e within)
    ∙ eqb-true (get_or pool at e).discr discr (has e))

-- ---- no other has the discriminator

neither : (a b : Bool) → (a || b) ≡ false → (a ≡ false) × (b ≡ false)
neither true b e = cc
neither false b e = (refl, e)

others : (discr : ℕ) (cs : List SessionConfig) (ps : List Row) → list_any (λ row. discr == row.discr) (rows_of cs ++ ps) ≡ false
    → AllByRecursion (λ c. (discr == discr_of c) ≡ false) cs × (list_any (λ row. discr == row.discr) ps ≡ false)
others discr [] ps e = (tt, e)
others discr (c ∷ cs) ps e =
    let parts = neither (discr == discr_of c) (list_any (λ row. discr == row.discr) (rows_of cs ++ ps)) e in
    let rest = others discr cs ps parts.1 in
    ((parts.0, rest.0), rest.1)

other_reflectors : (discr : ℕ) (pool : List Reflector) → list_any (λ row. discr == row.discr) (map row_of_reflector pool) ≡ false
    → AllByRecursion (λ r. (discr == r.discr) ≡ false) pool
other_reflectors discr [] e = tt
other_reflectors discr (r ∷ pool) e =
    let parts = neither (discr == r.discr) (list_any (λ row. discr == row.discr) (map row_of_reflector pool)) e in
    (parts.0, other_reflectors discr pool parts.1)

-- ---- the table with one more, or one less

module _ {cs : List SessionConfig} {pool : List Reflector} {rows : List Row} (table : IsTableOf cs pool rows) where
  pub table_long : length rows ≡ length cs + length pool
  table_long = ap length table.rows_are ∙ length_table cs pool

  pub with_session_more : (c : SessionConfig) (n : ℕ) → n ≡ place_for (discr_of c) cs → n ≤ length cs → add_fault (row_of c) rows ≡ None →
      (more : List SessionConfig) (after : List Row) → more ≡ insert cs n c → after ≡ insert rows n (row_of c) → IsTableOf more pool after
  with_session_more c n e within clear more after is are =
      let fit = fits (row_of c) rows clear in
      let apart = others (discr_of c) cs (map row_of_reflector pool) (rw (← table.rows_are) fit.discr) in
      record {
        rows_are = are ∙ ap (λ rs. insert rs n (row_of c)) table.rows_are ∙ sym (session_row_added cs pool n c within)
            ∙ ap (λ xs. table_of xs pool) (sym is);
        ascends = rw is (up_sessions (insert cs n c) (up_inserted discr_of cs n c e (sessions_up cs table.ascends) apart.0));
        climbs = table.climbs;
        few = omega (arith, fit.few, table_long, length-insert cs n c within, ap length is);
      }

  pub with_reflector_more : (r : Reflector) (n : ℕ) → n ≡ pool_place_for r.discr pool → n ≤ length pool
      → add_fault (row_of_reflector r) rows ≡ None →
      (more : List Reflector) (after : List Row) → more ≡ insert pool n r → after ≡ insert rows (length cs + n) (row_of_reflector r)
      → IsTableOf cs more after
  with_reflector_more r n e within clear more after is are =
      let fit = fits (row_of_reflector r) rows clear in
      let apart = others r.discr cs (map row_of_reflector pool) (rw (← table.rows_are) fit.discr) in
      record {
        rows_are = are ∙ ap (λ rs. insert rs (length cs + n) (row_of_reflector r)) table.rows_are ∙ sym (pool_row_added cs pool n r)
            ∙ ap (table_of cs) (sym is);
        ascends = table.ascends;
        climbs = rw is (up_pool (insert pool n r) (up_inserted (λ (x : Reflector). x.discr) pool n r e (pool_up pool table.climbs)
            (other_reflectors r.discr pool apart.1)));
        few = table.few;
      }

  pub with_session_less : (discr k : ℕ) → k < length cs → ((e : SessionConfig) → (discr == discr_of (get_or cs k e)) ≡ true) →
      (less : List SessionConfig) (after : List Row) → less ≡ remove cs k → after ≡ remove rows k → IsTableOf less pool after
  with_session_less discr k within has less after is are =
      let e = one_session cs (omega arith) in
      record {
        rows_are = are ∙ ap (λ rs. remove rs k) table.rows_are ∙ sym (session_row_removed cs pool k within)
            ∙ ap (λ xs. table_of xs pool) (sym is);
        ascends = rw is (up_sessions (remove cs k) (up_removed discr_of discr cs k e (sessions_up cs table.ascends) within
            (number_turned _ _ ∙ has e)));
        climbs = table.climbs;
        few = omega (arith, table.few, length-remove cs k within, ap length is);
      }

  pub with_reflector_less : (discr k : ℕ) → k < length pool → ((e : Reflector) → ((get_or pool k e).discr == discr) ≡ true) →
      (less : List Reflector) (after : List Row) → less ≡ remove pool k → after ≡ remove rows (length cs + k) → IsTableOf cs less after
  with_reflector_less discr k within has less after is are =
      let e : Reflector = record { discr = 0; rx = 0; up = false } in
      record {
        rows_are = are ∙ ap (λ rs. remove rs (length cs + k)) table.rows_are ∙ sym (pool_row_removed cs pool k) ∙ ap (table_of cs) (sym is);
        ascends = table.ascends;
        climbs = rw is (up_pool (remove pool k) (up_removed (λ (x : Reflector). x.discr) discr pool k e (pool_up pool table.climbs) within
            (has e)));
        few = table.few;
      }

  -- the session that is found, taken out
  pub session_out : (discr k : ℕ) → place_of discr cs ≡ Some k → (k < length cs)
      × ((e : SessionConfig) → (discr == discr_of (get_or cs k e)) ≡ true)
      × (remove cs k ≡ filter (λ c. not (discr_of c == discr)) cs)
  session_out discr k e =
      let found = found_at (λ c. discr == discr_of c) cs e in
      let c = one_session cs (omega (arith, found.0)) in
      (found.0, found.1, without discr_of discr cs k c (sessions_up cs table.ascends) found.0 (number_turned _ _ ∙ found.1 c))

  pub session_absent : (discr : ℕ) → place_of discr cs ≡ None → filter (λ c. not (discr_of c == discr)) cs ≡ cs
  session_absent discr e = (absent (λ c. discr == discr_of c) (λ c. not (discr_of c == discr))
      (λ c is. ap not (number_turned (discr_of c) discr ∙ is)) cs e).0

  pub reflector_out : (discr k : ℕ) → position (λ (r : Reflector). r.discr == discr) pool ≡ Some k → (k < length pool)
      × ((e : Reflector) → ((get_or pool k e).discr == discr) ≡ true)
      × (remove pool k ≡ filter (λ (r : Reflector). not (r.discr == discr)) pool)
      × (list_any (λ (r : Reflector). r.discr == discr) pool ≡ true)
  reflector_out discr k e =
      let found = found_at (λ (r : Reflector). r.discr == discr) pool e in
      let r : Reflector = record { discr = 0; rx = 0; up = false } in (
        found.0,
        found.1,
        without (λ (x : Reflector). x.discr) discr pool k r (pool_up pool table.climbs) found.0 (found.1 r),
        list_any_at (λ (x : Reflector). x.discr == discr) pool k r found.0 (found.1 r),
      )

  pub reflector_absent : (discr : ℕ) → position (λ (r : Reflector). r.discr == discr) pool ≡ None
      → (filter (λ (r : Reflector). not (r.discr == discr)) pool ≡ pool) × (list_any (λ (r : Reflector). r.discr == discr) pool ≡ false)
  reflector_absent discr e = absent (λ (r : Reflector). r.discr == discr) (λ r. not (r.discr == discr)) (λ r is. ap not is) pool e
