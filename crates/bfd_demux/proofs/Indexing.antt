-- What the two lists say of a row to come, and the index with one more row or one less.
use Rattle.bfd_demux.proofs.Common.{◌≡◌, ◌<◌, ◌≤◌, ℕ, ◌+◌, Bool, true, false, cond, not, ◌==◌, ◌&&◌, ◌||◌, if◌then◌else◌, List, [], ◌∷◌}
use Rattle.bfd_demux.proofs.Common.{◌++◌, length, length-map, get_or, refl, sym, subst, ◌∙◌, ap, arith, Option, Some, None, filter}
use Rattle.bfd_demux.proofs.Common.{and_parts}
use Rattle.bfd_demux.proofs.Common.{list_any, is_eq, eq-eqb, nat_tests, Port, Row, RowKind, Reflect, Session, Reflector, Name, same_discr}
use Rattle.bfd_demux.proofs.Common.{same_addresses, same_selector, has_addresses, add_fault, IsIndex, names_of, addresses_of, row_name}
use Rattle.bfd_demux.proofs.Common.{name_in, name_discr, names_a_session, heard_on, how_many, HasSame, IsAscending, Ordering}
use Rattle.std.specs.Prelude.{nat_le}
use Rattle.std.proofs.lemmas.Bool.{ne_eqb}
use Rattle.std.specs.List.{insert, remove}
use Rattle.std.proofs.Math.Bool.{or-false}
use Rattle.bfd_demux.specs.declared.fault.AddFault.TheVariants as adding
use Rattle.bfd_demux.specs.contracts.name.NameOrd.TheImpl as name_order
use Rattle.bfd_demux.specs.contracts.row.RowKindOrd.TheImpl as kind_order
use Rattle.bfd_demux.specs.contracts.name.NameOrd.TheImpl.Laws as name_laws
use Rattle.bfd_demux.specs.contracts.row.RowKindOrd.TheImpl.Laws as kind_laws
use Rattle.bfd_packet.proofs.Turned.{number_turned}
use Rattle.bfd_demux.proofs.AlikeRows.{nat_level_back, unaddressed}
use Rattle.bfd_demux.proofs.Ascending.{how_many-cons, length-HasSame}
use Rattle.bfd_demux.proofs.Once.{how_many-append, how_many-map, how_many_weaker, name_matches, discr_once}
use Rattle.bfd_demux.proofs.Lookups.{any_name, any_address, address_test, how_many_agree, list_any_agree, list_any_stronger}
use Rattle.bfd_demux.proofs.Changing.{how_many-insert, ascending_kept, removed_is_kept, sound_added, sound_kept, sessions_named, discr_name}
use Rattle.bfd_demux.proofs.Changing.{images_added, names_kept, images_kept, filtered}

-- what a look at the same entries says
pub known_by : {K V : Type 0} (cmp : K → K → Ordering) (key : K) {entries table : List (K × V)} {found : Bool} → entries ≡ table
    → found ≡ list_any (λ (entry : K × V). is_eq (cmp entry.0 key)) entries
    → found ≡ list_any (λ (entry : K × V). is_eq (cmp entry.0 key)) table
known_by {K} {V} cmp key same is = is ∙ ap (list_any (λ (entry : K × V). is_eq (cmp entry.0 key))) same

-- ---- what keeps a row out

either_more : (a b l m : Bool) {n : Bool} → (l || m) ≡ n → ((a || l) || (b || m)) ≡ ((a || b) || n)
either_more true b l m e = refl
either_more false true true m e = refl
either_more false true false m e = refl
either_more false false l m e = e

list_any_either : {X : Type 0} (test other : X → Bool) (xs : List X)
    → (list_any test xs || list_any other xs) ≡ list_any (λ x. test x || other x) xs
list_any_either test other [] = refl
list_any_either test other (x ∷ xs) = either_more (test x) (other x) (list_any test xs) (list_any other xs) (list_any_either test other xs)

list_any_never : {X : Type 0} (test : X → Bool) (xs : List X) → ((x : X) → test x ≡ false) → list_any test xs ≡ false
list_any_never test [] never = refl
list_any_never test (x ∷ xs) never = rw (never x) (list_any_never test xs never)

-- a name of either sort has the discriminator
either_name : (kind : RowKind) (discr other : ℕ)
    → (is_eq (name_order.ghosts.cmp (name_in kind discr) (Session other)) || is_eq
    (name_order.ghosts.cmp (name_in kind discr) (Reflector other))) ≡ (other == discr)
either_name Reflect discr other = nat_level_back discr other
either_name kind discr other = or-false _ ∙ nat_level_back discr other

-- what a row has that nothing keeps out
pub record Fits (row : Row) (rows : List Row) : Type 0 where
  pub few : length rows < 65536
  pub discr : list_any (same_discr row) rows ≡ false
  pub addresses : list_any (same_addresses row) rows ≡ false

fits_by : (many zero d a : Bool) → (if many then Some adding.TooMany else if zero then Some adding.ZeroDiscr else if d then Some
    adding.SameDiscr else if a then Some adding.SameAddresses else None) ≡ None
    → (many ≡ false) × (d ≡ false) × (a ≡ false)
fits_by true zero d a e = cc
fits_by false true d a e = cc
fits_by false false true a e = cc
fits_by false false false true e = cc
fits_by false false false false e = (refl, refl, refl)

below_most : (n : ℕ) → nat_le 65536 n ≡ false → n < 65536
below_most n e = grind (arith, nat_tests)

pub fits : (row : Row) (rows : List Row) → add_fault row rows ≡ None → Fits row rows
fits row rows e =
    let parts = fits_by (nat_le 65536 (length rows)) (row.discr == 0) (list_any (same_discr row) rows) (list_any (same_addresses row) rows)
    e in
    record { few = below_most (length rows) parts.0; discr = parts.1; addresses = parts.2 }

-- each test finds what the definition says, in its order

pub reported_many : (row : Row) (rows : List Row) → nat_le 65536 (length rows) ≡ true → Some adding.TooMany ≡ add_fault row rows
reported_many row rows many = rw many refl

pub reported_zero : (row : Row) (rows : List Row) → nat_le 65536 (length rows) ≡ false → row.discr ≡ 0
    → Some adding.ZeroDiscr ≡ add_fault row rows
reported_zero row rows few zero = let is = eq-eqb row.discr 0 zero in rw (few, is) refl

pub reported_discr : (row : Row) (rows : List Row) → nat_le 65536 (length rows) ≡ false → (row.discr ≡ 0 → ⊥)
    → true ≡ list_any (same_discr row) rows
    → Some adding.SameDiscr ≡ add_fault row rows
reported_discr row rows few some same = let not_zero = ne_eqb row.discr 0 some in rw (few, not_zero, ← same) refl

pub reported_addresses : (row : Row) (rows : List Row) → nat_le 65536 (length rows) ≡ false → (row.discr ≡ 0 → ⊥)
    → false ≡ list_any (same_discr row) rows
    → true ≡ list_any (same_addresses row) rows → Some adding.SameAddresses ≡ add_fault row rows
reported_addresses row rows few some other same = let not_zero = ne_eqb row.discr 0 some in rw (few, not_zero, ← other, ← same) refl

pub reported_none : (row : Row) (rows : List Row) → nat_le 65536 (length rows) ≡ false → (row.discr ≡ 0 → ⊥)
    → false ≡ list_any (same_discr row) rows
    → false ≡ list_any (same_addresses row) rows → None ≡ add_fault row rows
reported_none row rows few some other apart = let not_zero = ne_eqb row.discr 0 some in rw (few, not_zero, ← other, ← apart) refl

-- a kind without addresses is like none
pub unaddressed_rows : (kind : RowKind) (rows : List Row) → has_addresses kind ≡ false
    → list_any (λ row. same_selector kind row.kind) rows ≡ false
unaddressed_rows kind rows without = list_any_never (λ row. same_selector kind row.kind) rows (λ row. unaddressed kind row.kind without)

-- ---- the addresses with one more row

addresses_added : (rows : List Row) (place : ℕ) (row : Row) (ys more : List (RowKind × ℕ)) → HasSame (addresses_of rows) ys
    → HasSame (addresses_of (row ∷ []) ++ ys) more
    → HasSame (addresses_of (insert rows place row)) more
addresses_added rows place row ys more same one test =
    let after = one test ∙ how_many-append test (addresses_of (row ∷ [])) ys in
    let alone : how_many test (addresses_of (row ∷ []))
    ≡ how_many (λ (other : Row). has_addresses other.kind && test (other.kind, other.discr)) (row ∷ []) =
    filtered (λ (other : Row). has_addresses other.kind) (λ (other : Row). (other.kind, other.discr)) test (row ∷ []) in
    let first : how_many (λ (other : Row). has_addresses other.kind && test (other.kind, other.discr)) (row ∷ [])
    ≡ cond (has_addresses row.kind && test (row.kind, row.discr)) 1 0 + 0 =
    how_many-cons (λ (other : Row). has_addresses other.kind && test (other.kind, other.discr)) row [] in
    let before = same test ∙ filtered (λ (other : Row). has_addresses other.kind) (λ (other : Row). (other.kind, other.discr)) test rows in
    let all = filtered (λ (other : Row). has_addresses other.kind) (λ (other : Row). (other.kind, other.discr)) test (insert rows place row)
    ∙ how_many-insert (λ (other : Row). has_addresses other.kind && test (other.kind, other.discr)) rows place row in
    omega (arith, after, alone, first, before, all)

module _ {rows : List Row} {names : List (Name × Option Port)} {addresses : List (RowKind × ℕ)} {sessions : ℕ}
    (index : IsIndex rows names addresses sessions) where
  pub names_as_rows : length names ≡ length rows
  names_as_rows = length-HasSame (names_of rows) names index.by_name.named ∙ length-map rows (λ row. (row_name row, heard_on row.kind))

  pub many_rows : (n : ℕ) → n ≡ length names → 65536 ≤ n → nat_le 65536 (length rows) ≡ true
  many_rows n is many = let same = names_as_rows in grind (arith, nat_tests)

  pub few_rows : (n : ℕ) → n ≡ length names → n < 65536 → nat_le 65536 (length rows) ≡ false
  few_rows n is few = let same = names_as_rows in grind (arith, nat_tests)

  -- a name of either sort is present when a row has the discriminator
  pub discr_known : (discr : ℕ) → (list_any (λ (entry : Name × Option Port). is_eq (name_order.ghosts.cmp entry.0 (Session discr))) names
      || list_any (λ (entry : Name × Option Port). is_eq (name_order.ghosts.cmp entry.0 (Reflector discr))) names)
      ≡ list_any (λ row. discr == row.discr) rows
  discr_known discr =
      list_any_either (λ (entry : Name × Option Port). is_eq (name_order.ghosts.cmp entry.0 (Session discr)))
      (λ (entry : Name × Option Port). is_eq (name_order.ghosts.cmp entry.0 (Reflector discr))) names
      ∙ any_name index (λ entry. is_eq (name_order.ghosts.cmp entry.0 (Session discr)) || is_eq
      (name_order.ghosts.cmp entry.0 (Reflector discr)))
      ∙ list_any_agree (λ row. either_name row.kind row.discr discr) rows

  pub discr_first : (discr : ℕ) → true ≡ list_any (λ (entry : Name × Option Port). is_eq (name_order.ghosts.cmp entry.0 (Session discr)))
      names → true ≡ list_any (λ row. discr == row.discr) rows
  discr_first discr there =
      ap (λ b. b || list_any (λ (entry : Name × Option Port). is_eq (name_order.ghosts.cmp entry.0 (Reflector discr))) names) there
      ∙ discr_known discr

  pub discr_second : (discr : ℕ) {found : Bool} → false
      ≡ list_any (λ (entry : Name × Option Port). is_eq (name_order.ghosts.cmp entry.0 (Session discr))) names
      → found ≡ list_any (λ (entry : Name × Option Port). is_eq (name_order.ghosts.cmp entry.0 (Reflector discr))) names
      → found ≡ list_any (λ row. discr == row.discr) rows
  discr_second discr none is =
      is ∙ ap (λ b. b || list_any (λ (entry : Name × Option Port). is_eq (name_order.ghosts.cmp entry.0 (Reflector discr))) names) none
      ∙ discr_known discr

  -- the addresses are present when a row has them
  pub addresses_known : (kind : RowKind) → has_addresses kind ≡ true
      → list_any (λ (entry : RowKind × ℕ). is_eq (kind_order.ghosts.cmp entry.0 kind)) addresses
      ≡ list_any (λ row. same_selector kind row.kind) rows
  addresses_known kind with_addresses = any_address index (λ entry. is_eq (kind_order.ghosts.cmp entry.0 kind))
      ∙ list_any_agree (address_test index kind with_addresses) rows

  -- a row that fits has a new name
  pub name_new : (row : Row) → add_fault row rows ≡ None
      → list_any (λ (entry : Name × Option Port). is_eq (name_order.ghosts.cmp entry.0 (row_name row))) names ≡ false
  name_new row clear =
      any_name index (λ entry. is_eq (name_order.ghosts.cmp entry.0 (row_name row)))
      ∙ list_any_stronger {test = λ other. other.discr == row.discr}
      (λ other. is_eq (name_order.ghosts.cmp (row_name other) (row_name row)))
      (λ other e. sym (ap (λ d. other.discr == d) (discr_name row.kind row.discr)) ∙ name_matches other.kind other.discr (row_name row) e)
      rows
      (list_any_agree (λ other. number_turned other.discr row.discr) rows ∙ (fits row rows clear).discr)

  -- .. and new addresses, where it has some
  pub addresses_new : (row : Row) → add_fault row rows ≡ None → has_addresses row.kind ≡ true
      → list_any (λ (entry : RowKind × ℕ). is_eq (kind_order.ghosts.cmp entry.0 row.kind)) addresses ≡ false
  addresses_new row clear with_addresses = addresses_known row.kind with_addresses ∙ (fits row rows clear).addresses

  -- the index with the row
  pub index_added : (place : ℕ) (row : Row) → place ≤ length rows → add_fault row rows ≡ None →
      (more : List (Name × Option Port)) → HasSame ((row_name row, heard_on row.kind) ∷ names) more
      → IsAscending name_order.ghosts.cmp more →
      (also : List (RowKind × ℕ)) → HasSame (addresses_of (row ∷ []) ++ addresses) also → IsAscending kind_order.ghosts.cmp also →
      (n : ℕ) → n ≡ how_many (λ (entry : Name × Option Port). names_a_session entry.0) more → IsIndex (insert rows place row) more also n
  index_added place row within clear more one up also other climbs n counts =
      let named = images_added (λ (r : Row). (row_name r, heard_on r.kind)) rows place row names more index.by_name.named one in
      record {
        sound = sound_added rows place row within index.sound clear;
        by_name = record { named = named; names_ascend = up };
        by_addresses = record {
          addressed = addresses_added rows place row addresses also index.by_addresses.addressed other;
          addresses_ascend = climbs;
        };
        counted = counts ∙ sessions_named (insert rows place row) more named;
      }

  -- no two names have one discriminator, and no two of the addresses
  pub named_once : (discr : ℕ) → how_many (λ (entry : Name × Option Port). name_discr entry.0 == discr) names ≤ 1
  named_once discr =
      let same = index.by_name.named (λ (entry : Name × Option Port). name_discr entry.0 == discr) in
      let mapped = how_many-map (λ (entry : Name × Option Port). name_discr entry.0 == discr)
      (λ (r : Row). (row_name r, heard_on r.kind)) rows in
      let agree = how_many_agree {test = λ (r : Row). name_discr (row_name r) == discr} {other = λ (r : Row). r.discr == discr}
      (λ r. ap (λ d. d == discr) (discr_name r.kind r.discr)) rows in
      subst (λ n. n ≤ 1) (sym (same ∙ mapped ∙ agree)) (discr_once rows index.sound discr)

  pub addressed_once : (discr : ℕ) → how_many (λ (entry : RowKind × ℕ). entry.1 == discr) addresses ≤ 1
  addressed_once discr =
      let same = index.by_addresses.addressed (λ (entry : RowKind × ℕ). entry.1 == discr) in
      let mapped = filtered (λ (r : Row). has_addresses r.kind) (λ (r : Row). (r.kind, r.discr))
      (λ (entry : RowKind × ℕ). entry.1 == discr) rows in
      let less = how_many_weaker (λ (r : Row). has_addresses r.kind && (r.discr == discr)) (λ r. r.discr == discr)
      (λ r e. (and_parts (has_addresses r.kind) (r.discr == discr) e).1) rows in
      let most : how_many (λ (r : Row). has_addresses r.kind && (r.discr == discr)) rows ≤ 1 =
      omega (arith, less, discr_once rows index.sound discr) in
      subst (λ n. n ≤ 1) (sym (same ∙ mapped)) most

  -- the index without the row at a place
  pub index_removed : (place discr : ℕ) → place < length rows → ((d : Row) → (get_or rows place d).discr ≡ discr) →
      (n : ℕ) → n ≡ how_many (λ (entry : Name × Option Port). names_a_session entry.0)
      (filter (λ entry. not (name_discr entry.0 == discr)) names) →
      IsIndex (remove rows place) (filter (λ entry. not (name_discr entry.0 == discr)) names)
      (filter (λ entry. not (entry.1 == discr)) addresses) n
  index_removed place discr within its n counts =
      let none : Row = record { discr = 0; kind = Reflect } in
      let kept : remove rows place ≡ filter (λ row. not (row.discr == discr)) rows =
      removed_is_kept (λ row. row.discr == discr) rows place none within (eq-eqb _ _ (its none)) (discr_once rows index.sound discr) in
      let named = names_kept (λ row. not (row.discr == discr)) (λ (r : Row). (row_name r, heard_on r.kind))
      (λ entry. not (name_discr entry.0 == discr))
      (λ r. ap (λ d. not (d == discr)) (discr_name r.kind r.discr)) rows names index.by_name.named in
      let addressed = images_kept (λ r. has_addresses r.kind) (λ row. not (row.discr == discr)) (λ (r : Row). (r.kind, r.discr))
      (λ entry. not (entry.1 == discr))
      (λ r. refl) rows addresses index.by_addresses.addressed in
      subst (λ (rest : List Row). IsIndex rest (filter (λ entry. not (name_discr entry.0 == discr)) names)
      (filter (λ entry. not (entry.1 == discr)) addresses) n) (sym kept) (record {
        sound = sound_kept rows (λ row. not (row.discr == discr)) index.sound;
        by_name = record {
          named = named;
          names_ascend =
              ascending_kept name_laws.total-law (λ entry. not (name_discr entry.0 == discr)) names index.by_name.names_ascend;
        };
        by_addresses = record {
          addressed = addressed;
          addresses_ascend =
              ascending_kept kind_laws.total-law (λ entry. not (entry.1 == discr)) addresses index.by_addresses.addresses_ascend;
        };
        counted = counts ∙ sessions_named (filter (λ row. not (row.discr == discr)) rows)
            (filter (λ entry. not (name_discr entry.0 == discr)) names) named;
      })
