-- What a lookup in a sorted table says of the rows.
use Rattle.bfd_demux.proofs.Common.{◌≡◌, ◌<◌, ◌≤◌, ℕ, ◌+◌, Bool, true, false, cond, not, ◌==◌, ◌&&◌, ◌||◌, nat_lt, List, [], ◌∷◌, length}
use Rattle.bfd_demux.proofs.Common.{map, get_or, refl, sym, ◌∙◌, ap, arith, inl, inr, Option, Some, None, suc, zero, nat_tests, length-map}
use Rattle.bfd_demux.proofs.Common.{filter, list_any, option_map, nat_cmp, is_eq, is_lt, IsTotalOrder, alike_right, Ordering, cases_eq}
use Rattle.bfd_demux.proofs.Common.{and_parts, eqb-true, Port, Row, RowKind, Single, Multi, Initiator, Reflect, same_selector}
use Rattle.bfd_demux.proofs.Common.{has_addresses}
use Rattle.bfd_demux.proofs.Common.{IsIndex, names_of, addresses_of, row_name, name_in, name_on, names_before, is_heard, heard_on, how_many}
use Rattle.bfd_demux.proofs.Common.{IsAscending, IsPlaceOf, is_of_kind, row_has_discr, knows, is_session, session_index, reflector_index}
use Rattle.bfd_demux.proofs.Common.{only, the_one, index_on, Session, Reflector, eq-or-lt_of_le, filter_agree, Name}
use Rattle.std.proofs.lemmas.List.Folds.{list_any_at}
use Rattle.std.proofs.Math.Bool.{and-false, and-true, or-false}
use Rattle.bfd_packet.specs.declared.arrival.Port.TheVariants.{Single as SinglePort, Multi as MultiPort, Echo as EchoPort, Sbfd as SbfdPort}
use Rattle.bfd_packet.specs.declared.arrival.Port.TheVariants.{Answer as AnswerPort}
use Rattle.bfd_demux.specs.contracts.name.NameOrd.TheImpl as name_order
use Rattle.bfd_demux.specs.contracts.name.NameOrd.TheImpl.Laws as name_laws
use Rattle.bfd_demux.specs.contracts.row.RowKindOrd.TheImpl as kind_order
use Rattle.bfd_demux.specs.contracts.row.RowKindOrd.TheImpl.Laws as kind_laws
use Rattle.bfd_demux.proofs.AlikeRows.{and_assoc, nat_level, selector_level_back, unaddressed_back}
use Rattle.bfd_demux.proofs.Ascending.{how_many-cons, length-HasSame, list_any-HasSame, none_passes, le_or_lt, turned}
use Rattle.bfd_demux.proofs.Once.{how_many-map, how_many_weaker, discr_once, kind_once, sound_rows}

-- ---- numbers and tests

not_equal_above : {m k : ℕ} → m ≤ k → (k ≡ m → ⊥) → m < k
not_equal_above le other = elim (eq-or-lt_of_le le) [ inl same ↦ absurd (other (sym same)) | inr lt ↦ lt ]

-- ---- lists

-- whether an image passes
pub list_any-map : {X Y : Type 0} (test : Y → Bool) (f : X → Y) (xs : List X) → list_any test (map f xs) ≡ list_any (λ x. test (f x)) xs
list_any-map test f [] = refl
list_any-map test f (x ∷ xs) = cc (list_any-map test f xs)

-- whether one of those that pass another test passes
list_any-filter : {X : Type 0} (test also : X → Bool) (xs : List X) → list_any test (filter also xs) ≡ list_any (λ x. also x && test x) xs
list_any-filter test also [] = refl
list_any-filter test also (x ∷ xs) =
    elim (also x) as (λ b. list_any test (cond b (x ∷ filter also xs) (filter also xs))
    ≡ ((b && test x) || list_any (λ y. also y && test y) xs)) [
      | true ↦ cc (list_any-filter test also xs)
      | false ↦ list_any-filter test also xs
    ]

-- two tests that agree
pub list_any_agree : {X : Type 0} {test other : X → Bool} → ((x : X) → test x ≡ other x) → (xs : List X)
    → list_any test xs ≡ list_any other xs
list_any_agree same [] = refl
list_any_agree same (x ∷ xs) = rw (same x, list_any_agree same xs) refl

pub how_many_agree : {X : Type 0} {test other : X → Bool} → ((x : X) → test x ≡ other x) → (xs : List X)
    → how_many test xs ≡ how_many other xs
how_many_agree {test} {other} same xs = ap length (filter_agree test other same xs)

stronger_more : (t s : Bool) {l k : Bool} → (s ≡ true → t ≡ true) → (t || l) ≡ false → (l ≡ false → k ≡ false) → (s || k) ≡ false
stronger_more true s follows none rest = cc
stronger_more false true follows none rest = cc (follows refl)
stronger_more false false follows none rest = rest none

-- a stronger test is passed by none where the weaker is
pub list_any_stronger : {X : Type 0} {test : X → Bool} (stronger : X → Bool) → ((x : X) → stronger x ≡ true → test x ≡ true) → (xs : List X)
    → list_any test xs ≡ false → list_any stronger xs ≡ false
list_any_stronger stronger follows [] none = refl
list_any_stronger {test} stronger follows (x ∷ xs) none = stronger_more _ _ (follows x) none (list_any_stronger _ follows xs)

weaker_more : (t w : Bool) {l k : Bool} → (t ≡ true → w ≡ true) → (t || l) ≡ true → (l ≡ true → k ≡ true) → (w || k) ≡ true
weaker_more t true follows some rest = refl
weaker_more true false follows some rest = cc (follows refl)
weaker_more false false follows some rest = rest some

-- a weaker test is passed where the stronger is
list_any_weaker : {X : Type 0} {test : X → Bool} (weaker : X → Bool) → ((x : X) → test x ≡ true → weaker x ≡ true) → (xs : List X)
    → list_any test xs ≡ true → list_any weaker xs ≡ true
list_any_weaker weaker follows [] some = cc
list_any_weaker {test} weaker follows (x ∷ xs) some = weaker_more _ _ (follows x) some (list_any_weaker _ follows xs)

neither_more : {X : Type 0} (b : Bool) {l : Bool} (x : X) {xs : List X} → (b || l) ≡ false → (l ≡ false → xs ≡ []) → cond b (x ∷ xs) xs ≡ []
neither_more true x none rest = cc
neither_more false x none rest = rest none

-- none passes: the filter is empty
filter_none : {X : Type 0} (test : X → Bool) (xs : List X) → list_any test xs ≡ false → filter test xs ≡ []
filter_none test [] none = refl
filter_none test (x ∷ xs) none = neither_more (test x) x none (filter_none test xs)

zero_more : (b : Bool) {l : Bool} {n : ℕ} → cond b 1 0 + n ≡ 0 → (n ≡ 0 → l ≡ false) → (b || l) ≡ false
zero_more true zero_all rest = absurd (omega arith)
zero_more false zero_all rest = rest (omega arith)

-- the number of those that pass is 0: none passes
pub none_of_zero : {X : Type 0} (test : X → Bool) (xs : List X) → how_many test xs ≡ 0 → list_any test xs ≡ false
none_of_zero test [] none = refl
none_of_zero test (x ∷ xs) none = zero_more (test x) (cc (how_many-cons test x xs)) (none_of_zero test xs)

-- the row that is the one that passes, and passes also another test
pub record IsTheOne (test also : Row → Bool) (rows : List Row) (row : Row) : Type 0 where
  pub one : the_one test rows ≡ Some row
  pub passes : test row ≡ true
  pub also_passes : also row ≡ true

the_one_first : (test : Row → Bool) (row : Row) (rows : List Row) → test row ≡ true → filter test rows ≡ []
    → the_one test (row ∷ rows) ≡ Some row
the_one_first test row rows is none = rw (is, none) refl

the_one_later : (test : Row → Bool) (row : Row) (rows : List Row) → test row ≡ false → the_one test (row ∷ rows) ≡ the_one test rows
the_one_later test row rows is = rw is refl

one_more_of : (test also : Row → Bool) (row : Row) (rows : List Row) → how_many test (row ∷ rows) ≤ 1
    → list_any (λ other. test other && also other) (row ∷ rows) ≡ true →
    (how_many test rows ≤ 1 → list_any (λ other. test other && also other) rows ≡ true → (other : Row) × IsTheOne test also rows other) →
    (other : Row) × IsTheOne test also (row ∷ rows) other
one_more_of test also row rows few some rest = go (test row) refl
  where
    go : (b : Bool) → test row ≡ b → (other : Row) × IsTheOne test also (row ∷ rows) other
    go true is =
        let counted : how_many test (row ∷ rows) ≡ 1 + how_many test rows = how_many-cons test row rows ∙ rw is refl in
        let none = none_of_zero test rows (omega arith) in
        let none_both = list_any_stronger {test = test} (λ other. test other && also other)
        (λ other e. (and_parts (test other) (also other) e).0) rows none in
        let passes : also row ≡ true = sym (or-false (also row)) ∙ (rw (is, none_both) at some) in
        (row, record { one = the_one_first test row rows is (filter_none test rows none); passes = is; also_passes = passes })
    go false is =
        let counted : how_many test (row ∷ rows) ≡ how_many test rows = how_many-cons test row rows ∙ rw is (omega arith) in
        let found = rest (omega arith) (rw is at some) in
        (found.0, record { one = the_one_later test row rows is ∙ found.1.one; passes = found.1.passes; also_passes = found.1.also_passes })

-- one at most passes, and one that passes also passes another test: it is the one
one_of : (test also : Row → Bool) (rows : List Row) → how_many test rows ≤ 1 → list_any (λ row. test row && also row) rows ≡ true
    → (row : Row) × IsTheOne test also rows row
one_of test also [] few some = cc
one_of test also (row ∷ rows) few some = one_more_of test also row rows few some (one_of test also rows)

-- ---- tables

-- at two defaults
pub at_default : {X : Type 0} (xs : List X) (i : ℕ) (d e : X) → i < length xs → get_or xs i d ≡ get_or xs i e
at_default [] i d e lt = absurd (omega arith)
at_default (x ∷ xs) zero d e lt = refl
at_default (x ∷ xs) (suc i) d e lt = at_default xs i d e (omega arith)

module _ {K V : Type 0} {cmp : K → K → Ordering} (order : IsTotalOrder cmp) where
  -- no other entry has the key
  unique_at : (entries : List (K × V)) (key : K) (place : ℕ) → IsAscending cmp entries → IsPlaceOf cmp entries key place →
      (k : ℕ) (d : K × V) → k < length entries → (k ≡ place → ⊥) → is_eq (cmp (get_or entries k d).0 key) ≡ false
  unique_at entries key place up at k d lt other =
      elim (le_or_lt place k) [
        | inl above ↦
            ap is_eq (turned order (sym (order.congr _ _ _ (at.level d)) ∙ (up place k d (not_equal_above above other) lt)))
        | inr below ↦
            ap is_eq (sym (alike_right order _ _ _ (at.level d)) ∙ (up k place d below at.within))
      ]

  -- an entry with the key passes another test where the one at its place does
  any_at : (entries : List (K × V)) (key : K) (place : ℕ) (also : K × V → Bool) (d : K × V) → IsAscending cmp entries
      → IsPlaceOf cmp entries key place →
      list_any (λ (entry : K × V). is_eq (cmp entry.0 key) && also entry) entries ≡ also (get_or entries place d)
  any_at entries key place also d up at = go (also (get_or entries place d)) refl
    where
      test : K × V → Bool
      test entry = is_eq (cmp entry.0 key) && also entry

      go : (b : Bool) → also (get_or entries place d) ≡ b → list_any (λ (entry : K × V). is_eq (cmp entry.0 key) && also entry) entries ≡ b
      go true is = list_any_at (λ (entry : K × V). is_eq (cmp entry.0 key) && also entry) entries place d at.within
          (rw (at.level d, is) refl)
      go false is = none_passes (λ (entry : K × V). is_eq (cmp entry.0 key) && also entry) entries (λ k e lt.
          elim (cases_eq k place) [
            | inl same ↦ rw (same, at_default entries _ e d at.within, is) (and-false _)
            | inr other ↦ rw (unique_at _ key place up at k e lt other) refl
          ])

pub length-filter-le : {X : Type 0} (test : X → Bool) (xs : List X) → length (filter test xs) ≤ length xs
length-filter-le test [] = omega arith
length-filter-le test (x ∷ xs) =
    let rest = length-filter-le test xs in
    let first = how_many-cons test x xs in
    elim (test x) as (λ b. length (cond b (x ∷ filter test xs) (filter test xs)) ≤ length (x ∷
    xs)) [ true ↦ omega arith | false ↦ omega arith ]

-- what a lookup says of the same entries and the same key
pub missing_by : {K V : Type 0} (cmp : K → K → Ordering) {entries table : List (K × V)} {key name : K} → entries ≡ table → key ≡ name →
    list_any (λ (entry : K × V). is_eq (cmp entry.0 key)) entries ≡ false
    → list_any (λ (entry : K × V). is_eq (cmp entry.0 name)) table ≡ false
missing_by {K} {V} cmp {entries} {table} {key} {name} same same_key none = rw (← same, ← same_key) none

pub found_by : {K V : Type 0} {cmp : K → K → Ordering} {entries table : List (K × V)} {key name : K} {place : ℕ} → entries ≡ table
    → key ≡ name →
    IsPlaceOf cmp entries key place → IsPlaceOf cmp table name place
found_by {K} {V} {cmp} {entries} {table} {key} {name} {place} same same_key at = rw (← same, ← same_key) at

-- ---- the names of rows

nat_lower : (a b : ℕ) → is_lt (nat_cmp a b) ≡ nat_lt a b
nat_lower a b = grind (arith, nat_tests)

-- a row has the name and is heard on the port where it is of the port's kind and has the discriminator
name_test_in : (port : Port) (kind : RowKind) (discr other : ℕ) →
    (is_eq (name_order.ghosts.cmp (name_in kind discr) (name_on port other)) && is_heard port (heard_on kind))
    ≡ (is_of_kind port kind && (discr == other))
name_test_in SinglePort (Single _ _ _) discr other = and-true (is_eq (nat_cmp discr other)) ∙ nat_level discr other
name_test_in EchoPort (Single _ _ _) discr other = and-true (is_eq (nat_cmp discr other)) ∙ nat_level discr other
name_test_in MultiPort (Multi _ _) discr other = and-true (is_eq (nat_cmp discr other)) ∙ nat_level discr other
name_test_in AnswerPort Initiator discr other = and-true (is_eq (nat_cmp discr other)) ∙ nat_level discr other
name_test_in SbfdPort Reflect discr other = and-true (is_eq (nat_cmp discr other)) ∙ nat_level discr other
name_test_in port kind discr other = and-false (is_eq (name_order.ghosts.cmp (name_in kind discr) (name_on port other)))

name_test : (port : Port) (other : ℕ) (row : Row) →
    (is_eq (name_order.ghosts.cmp (row_name row) (name_on port other)) && is_heard port (heard_on row.kind)) ≡ row_has_discr port other row
name_test port other row = name_test_in port row.kind row.discr other

-- a name before a session's is that of a session with a lower discriminator
lower_session : (kind : RowKind) (discr other : ℕ) → is_lt (name_order.ghosts.cmp (name_in kind discr) (Session other))
    ≡ (is_session kind && nat_lt discr other)
lower_session Reflect discr other = refl
lower_session kind discr other = nat_lower discr other

-- a name before a reflector's is that of a session, or of a reflector with a lower discriminator
lower_reflector : (kind : RowKind) (discr other : ℕ) → is_lt (name_order.ghosts.cmp (name_in kind discr) (Reflector other))
    ≡ (is_session kind || (not (is_session kind) && nat_lt discr other))
lower_reflector Reflect discr other = nat_lower discr other
lower_reflector kind discr other = refl

either_more : (b c : Bool) {l : ℕ} (m n : ℕ) → l ≡ m + n → cond (b || (not b && c)) 1 0 + l ≡ (cond b 1 0 + m) + (cond (not b && c) 1 0 + n)
either_more true c m n e = omega arith
either_more false true m n e = omega arith
either_more false false m n e = omega arith

-- those that pass a test, and those that pass another and not the first
how_many_either : {X : Type 0} (test other : X → Bool) (xs : List X)
    → how_many (λ x. test x || (not (test x) && other x)) xs ≡ how_many test xs + how_many (λ x. not (test x) && other x) xs
how_many_either test other [] = omega arith
how_many_either test other (x ∷ xs) =
    rw (
      how_many-cons (λ y. test y || (not (test y) && other y)) x xs,
      how_many-cons test x xs,
      how_many-cons (λ y. not (test y) && other y) x xs,
    )
    (either_more (test x) (other x) _ _ (how_many_either test other xs))

-- a row that a packet's addresses name is a session
session_level : (kind other : RowKind) (discr key : ℕ) → same_selector kind other ≡ true
    → is_eq (name_order.ghosts.cmp (name_in other discr) (Session key)) ≡ (discr == key)
session_level kind Reflect discr key e = cc (unaddressed_back kind Reflect refl)
session_level kind other discr key e = nat_level discr key

module _ {rows : List Row} {names : List (Name × Option Port)} {addresses : List (RowKind × ℕ)} {sessions : ℕ}
    (index : IsIndex rows names addresses sessions) where
  -- the names of the table have an entry that passes where a row has
  pub any_name : (test : Name × Option Port → Bool) → list_any test names ≡ list_any (λ row. test (row_name row, heard_on row.kind)) rows
  any_name test = list_any-HasSame test (names_of rows) names index.by_name.named
      ∙ list_any-map test (λ row. (row_name row, heard_on row.kind)) rows

  pub many_names : (test : Name × Option Port → Bool) → how_many test names ≡ how_many (λ row. test (row_name row, heard_on row.kind)) rows
  many_names test = index.by_name.named test ∙ how_many-map test (λ row. (row_name row, heard_on row.kind)) rows

  -- one row at most is of the port's kind and has the discriminator
  one_named : (port : Port) (discr : ℕ) → how_many (row_has_discr port discr) rows ≤ 1
  one_named port discr =
      let less = how_many_weaker (row_has_discr port discr) (λ row. row.discr == discr)
      (λ row e. (and_parts (is_of_kind port row.kind) (row.discr == discr) e).1) rows in
      omega (arith, discr_once rows index.sound discr)

  -- the name is found, and its row is of the port's kind where it is heard there
  pub name_known : (port : Port) (discr place : ℕ) (d : Name × Option Port)
      → IsPlaceOf name_order.ghosts.cmp names (name_on port discr) place →
      is_heard port (get_or names place d).1 ≡ knows rows port discr
  name_known port discr place d at =
      cc (
        any_at name_laws.total-law _ (name_on port discr) place (λ entry. is_heard port entry.1) d index.by_name.names_ascend at,
        any_name (λ entry. is_eq (name_order.ghosts.cmp entry.0 (name_on port discr)) && is_heard port entry.1),
        list_any_agree (name_test port discr) rows,
      )

  -- the name isn't found
  pub name_unknown : (port : Port) (discr : ℕ) → list_any (λ (entry : Name × Option Port). is_eq
      (name_order.ghosts.cmp entry.0 (name_on port discr))) names ≡ false → false ≡ knows rows port discr
  name_unknown port discr none = sym (list_any_stronger (row_has_discr port discr)
      (λ row e. (and_parts (is_eq (name_order.ghosts.cmp (row_name row) (name_on port discr))) (is_heard port (heard_on row.kind))
      (name_test port discr row ∙ e)).0)
      rows (cc (any_name (λ entry. is_eq (name_order.ghosts.cmp entry.0 (name_on port discr))))))

  -- a session's place among the names is its index
  pub place_of_session : (discr place : ℕ) → IsPlaceOf name_order.ghosts.cmp names (Session discr) place → place ≡ session_index rows discr
  place_of_session discr place at =
      cc (
        many_names (λ entry. is_lt (name_order.ghosts.cmp entry.0 (Session discr))),
        how_many_agree (λ row. lower_session row.kind row.discr discr) rows,
      )

  -- a reflector's place comes after the sessions
  place_of_reflector : (discr place : ℕ) → IsPlaceOf name_order.ghosts.cmp names (Reflector discr) place
      → place ≡ sessions + reflector_index rows discr
  place_of_reflector discr place at =
      cc (
        many_names (λ entry. is_lt (name_order.ghosts.cmp entry.0 (Reflector discr))),
        how_many_agree (λ row. lower_reflector row.kind row.discr discr) rows,
        how_many_either (λ row. is_session row.kind) (λ row. nat_lt row.discr discr) rows,
      )

  -- so the place is the index, after the names before those of the port
  pub place_of_name : (port : Port) (discr place : ℕ) → IsPlaceOf name_order.ghosts.cmp names (name_on port discr) place
      → place ≡ names_before port sessions + index_on port rows discr
  place_of_name SbfdPort discr place at = place_of_reflector discr place at
  place_of_name port discr place at = omega (arith, place_of_session discr place at)

  pub few_names : length names ≤ 65536
  few_names =
      let few = (sound_rows rows index.sound).few in
      let mapped : length (names_of rows) ≡ length rows = length-map rows (λ row. (row_name row, heard_on row.kind)) in
      omega (arith, length-HasSame (names_of rows) names index.by_name.named)

  pub few_addresses : length addresses ≤ 65536
  few_addresses =
      let few = (sound_rows rows index.sound).few in
      let mapped : length (addresses_of rows) ≡ length (filter (λ row. has_addresses row.kind) rows) =
      length-map (filter (λ row. has_addresses row.kind) rows) (λ row. (row.kind, row.discr)) in
      let fewer = length-filter-le (λ row. has_addresses row.kind) rows in
      omega (arith, length-HasSame (addresses_of rows) addresses index.by_addresses.addressed)

  -- no row is of the port's kind and has the discriminator
  pub none_named : (port : Port) (discr : ℕ) → false ≡ knows rows port discr → the_one (row_has_discr port discr) rows ≡ None
  none_named port discr none = ap only (filter_none (row_has_discr port discr) rows (sym none))

  -- one is, and the index that the port gives it is that of the discriminator
  pub some_named : (port : Port) (discr : ℕ) → true ≡ knows rows port discr
      → option_map (λ (row : Row). index_on port rows row.discr) (the_one (row_has_discr port discr) rows) ≡ Some (index_on port rows discr)
  some_named port discr some =
      let found = one_of (row_has_discr port discr) (λ row. true) rows (one_named port discr)
      (cc (list_any_agree (λ row. and-true (row_has_discr port discr row)) rows)) in
      cc ((eqb-true found.0.discr discr (and_parts (is_of_kind port found.0.kind) (found.0.discr == discr) found.1.passes).1))

  -- ---- the addresses of rows

  -- among the rows with addresses, those of the kind are those that a packet of the kind doesn't distinguish
  pub address_test : (kind : RowKind) → has_addresses kind ≡ true → (row : Row)
      → (has_addresses row.kind && is_eq (kind_order.ghosts.cmp row.kind kind)) ≡ same_selector kind row.kind
  address_test kind with_addresses row = go (has_addresses row.kind) refl
    where
      go : (b : Bool) → has_addresses row.kind ≡ b → (b && is_eq (kind_order.ghosts.cmp row.kind kind)) ≡ same_selector kind row.kind
      go true is = selector_level_back row.kind kind with_addresses
      go false is = sym (unaddressed_back kind row.kind is)

  pub any_address : (test : RowKind × ℕ → Bool) → list_any test addresses
      ≡ list_any (λ row. has_addresses row.kind && test (row.kind, row.discr)) rows
  any_address test =
      cc (
        list_any-HasSame test (addresses_of rows) addresses index.by_addresses.addressed,
        list_any-map test (λ row. (row.kind, row.discr)) (filter (λ row. has_addresses row.kind) rows),
        list_any-filter (λ row. test (row.kind, row.discr)) (λ row. has_addresses row.kind) rows,
      )

  -- the addresses aren't found
  pub address_unknown : (kind : RowKind) → has_addresses kind ≡ true
      → list_any (λ (entry : RowKind × ℕ). is_eq (kind_order.ghosts.cmp entry.0 kind)) addresses ≡ false →
      false ≡ list_any (λ row. same_selector kind row.kind) rows
  address_unknown kind with_addresses none =
      sym (cc (list_any_agree (address_test kind with_addresses) rows, any_address (λ entry. is_eq (kind_order.ghosts.cmp entry.0 kind))))

  -- they are found with a discriminator: a row has both
  address_known : (kind : RowKind) (place : ℕ) (d : RowKind × ℕ) → has_addresses kind ≡ true
      → IsPlaceOf kind_order.ghosts.cmp addresses kind place →
      list_any (λ row. same_selector kind row.kind && (row.discr == (get_or addresses place d).1)) rows ≡ true
  address_known kind place d with_addresses at = list_any_agree (λ row.
      cc (
        address_test kind with_addresses row,
        and_assoc (has_addresses row.kind) (is_eq (kind_order.ghosts.cmp row.kind kind))
            (row.discr == (get_or addresses place d).1),
      ))
      rows ∙ sym (any_address (λ entry. is_eq (kind_order.ghosts.cmp entry.0 kind) && (entry.1 == (get_or addresses place d).1)))
      ∙ any_at kind_laws.total-law _ kind place (λ entry. entry.1 == (get_or addresses place d).1) d index.by_addresses.addresses_ascend at
      ∙ grind (arith, nat_tests)

  -- so the addresses are known
  pub address_named : (kind : RowKind) (place : ℕ) (d : RowKind × ℕ) → has_addresses kind ≡ true
      → IsPlaceOf kind_order.ghosts.cmp addresses kind place →
      true ≡ list_any (λ row. same_selector kind row.kind) rows
  address_named kind place d with_addresses at = sym (list_any_weaker (λ row. same_selector kind row.kind)
      (λ row e. (and_parts (same_selector kind row.kind) (row.discr == (get_or addresses place d).1) e).0) rows
      (address_known kind place d with_addresses at))

  -- and the discriminator is that of the one row that has them
  pub address_index : (kind : RowKind) (place : ℕ) (d : RowKind × ℕ) → has_addresses kind ≡ true
      → IsPlaceOf kind_order.ghosts.cmp addresses kind place →
      option_map (λ (row : Row). session_index rows row.discr) (the_one (λ row. same_selector kind row.kind) rows)
      ≡ Some (session_index rows (get_or addresses place d).1)
  address_index kind place d with_addresses at =
      let found = one_of (λ row. same_selector kind row.kind) (λ row. row.discr == (get_or addresses place d).1) rows
      (kind_once rows index.sound kind) (address_known kind place d with_addresses at) in
      cc ((eqb-true found.0.discr (get_or addresses place d).1 found.1.also_passes))

  -- which is that of a session
  pub address_session : (kind : RowKind) (place : ℕ) (d : RowKind × ℕ) → has_addresses kind ≡ true
      → IsPlaceOf kind_order.ghosts.cmp addresses kind place →
      list_any (λ (entry : Name × Option Port). is_eq (name_order.ghosts.cmp entry.0 (Session (get_or addresses place d).1))) names ≡ false
      → ⊥
  address_session kind place d with_addresses at none =
      let missing = list_any_stronger (λ row. same_selector kind row.kind && (row.discr == (get_or addresses place d).1)) (λ row e.
      let parts = and_parts (same_selector kind row.kind) (row.discr == (get_or addresses place d).1) e in
      session_level kind row.kind row.discr (get_or addresses place d).1 parts.0 ∙ parts.1)
      rows (cc (any_name (λ entry. is_eq (name_order.ghosts.cmp entry.0 (Session (get_or addresses place d).1))))) in
      cc (address_known kind place d with_addresses at)

  -- no row has the addresses
  pub none_addressed : (kind : RowKind) → false ≡ list_any (λ row. same_selector kind row.kind) rows
      → the_one (λ row. same_selector kind row.kind) rows ≡ None
  none_addressed kind none = ap only (filter_none (λ row. same_selector kind row.kind) rows (sym none))
