-- In rows without a fault each discriminator and each kind with addresses comes once.
use Rattle.bfd_demux.proofs.Common.{◌≡◌, ◌≤◌, ℕ, ◌+◌, Bool, true, false, cond, ◌==◌, ◌&&◌, nat_lt, List, [], ◌∷◌, ◌++◌, length, map, refl}
use Rattle.bfd_demux.proofs.Common.{◌∙◌, arith, Option, Some, None, append_assoc, position, append-nil, nat_tests, filter, position_from}
use Rattle.bfd_demux.proofs.Common.{option_map, option_or, is_eq, and_parts, eqb-true, Port, Row, RowKind, Reflect, repeat_after}
use Rattle.bfd_demux.proofs.Common.{first_repeat, same_discr, same_addresses, same_selector, has_addresses, build_fault, early_fault}
use Rattle.bfd_demux.proofs.Common.{pair_fault, names_of, addresses_of, row_name, name_discr, name_in, heard_on, how_many, HasKeysOnce}
use Rattle.bfd_demux.proofs.Common.{Session, Reflector, Name}
use Rattle.bfd_demux.specs.declared.fault.BuildFault.{BuildFault}
use Rattle.bfd_demux.specs.declared.fault.BuildFault.TheVariants.{SameDiscr, SameAddresses, ZeroDiscr, TooMany}
use Rattle.bfd_demux.specs.contracts.name.NameOrd.TheImpl as name_order
use Rattle.bfd_demux.specs.contracts.row.RowKindOrd.TheImpl as kind_order
use Rattle.bfd_demux.proofs.AlikeRows.{nat_level, selector_level, same_selector_is}
use Rattle.bfd_demux.proofs.Ascending.{how_many-cons}

-- how many of two lists
pub how_many-append : {X : Type 0} (test : X → Bool) (xs ys : List X) → how_many test (xs ++ ys) ≡ how_many test xs + how_many test ys
how_many-append test [] ys = omega arith
how_many-append test (x ∷ xs) ys =
    let rest = how_many-append test xs ys in
    how_many-cons test x (xs ++ ys) ∙ rw how_many-cons (omega arith)

-- how many of a list's images
pub how_many-map : {X Y : Type 0} (test : Y → Bool) (f : X → Y) (xs : List X) → how_many test (map f xs) ≡ how_many (λ x. test (f x)) xs
how_many-map test f [] = refl
how_many-map test f (x ∷ xs) = cc (how_many-cons test (f x) (map f xs), how_many-map test f xs, how_many-cons (λ x. test (f x)) x xs)

counted : {X : Type 0} (b : Bool) (x : X) (xs : List X) → cond b 1 0 + length xs ≡ length (cond b (x ∷ xs) xs)
counted true x xs = omega arith
counted false x xs = omega arith

-- how many of those that pass another test
pub how_many-filter : {X : Type 0} (test also : X → Bool) (xs : List X)
    → how_many test (filter also xs) ≡ how_many (λ x. also x && test x) xs
how_many-filter test also [] = refl
how_many-filter test also (x ∷ xs) =
    elim (also x) as (λ b. how_many test (cond b (x ∷ filter also xs) (filter also xs))
    ≡ length (cond (b && test x) (x ∷ filter (λ y. also y && test y) xs) (filter (λ y. also y && test y) xs))) [
      | true ↦ cc (
        how_many-cons test x (filter also xs),
        how_many-filter test also xs,
        counted (test x) x (filter (λ y. also y && test y) xs),
      )
      | false ↦ how_many-filter test also xs
    ]

one_more : (b c : Bool) {m n : ℕ} → (b ≡ true → c ≡ true) → m ≤ n → cond b 1 0 + m ≤ cond c 1 0 + n
one_more true true follows le = omega arith
one_more true false follows le = cc (follows refl)
one_more false true follows le = omega arith
one_more false false follows le = omega arith

-- a weaker test passes no fewer
pub how_many_weaker : {X : Type 0} (test weaker : X → Bool) → ((x : X) → test x ≡ true → weaker x ≡ true) → (xs : List X)
    → how_many test xs ≤ how_many weaker xs
how_many_weaker test weaker follows [] = omega arith
how_many_weaker test weaker follows (x ∷ xs) =
    rw (how_many-cons test x xs, how_many-cons weaker x xs) (one_more _ _ (follows x) (how_many_weaker test _ follows xs))

-- neither of two
neither : {X Y : Type 0} (f : X → Y) (o : Option X) (later : Option Y) → option_or (option_map f o) later ≡ None → (o ≡ None)
    × (later ≡ None)
neither f None later e = (refl, e)
neither f (Some x) later e = cc

none_more : (found test : Row → Bool) → ((row : Row) → test row ≡ true → found row ≡ true) → (n : ℕ) (row : Row) (rows : List Row) →
    position_from found n (row ∷ rows) ≡ None → (position_from found (n + 1) rows ≡ None → how_many test rows ≡ 0)
    → how_many test (row ∷ rows) ≡ 0
none_more found test follows n row rows e rest = go (found row) (test row) refl refl
  where
    go : (b c : Bool) → found row ≡ b → test row ≡ c → how_many test (row ∷ rows) ≡ 0
    go true c is was = let never : Some n ≡ None = rw is at e in cc
    go false true is was = let never = follows row was in cc
    go false false is was = rw was (rest (rw is at e))

-- where a stronger test finds none, none passes
pub none_before : (found test : Row → Bool) → ((row : Row) → test row ≡ true → found row ≡ true) → (n : ℕ) (rows : List Row)
    → position_from found n rows ≡ None → how_many test rows ≡ 0
none_before found test follows n [] e = refl
none_before found test follows n (row ∷ rows) e = none_more _ test follows n row rows e (none_before _ test follows (n + 1) rows)

-- rows of which none is like an earlier one: a test that passes only rows that are alike passes one at most
pub once_after : (same : Row → Row → Bool) (test : Row → Bool)
    → ((row other : Row) → test row ≡ true → test other ≡ true → same row other ≡ true) →
    (earlier rows : List Row) → repeat_after same earlier rows ≡ None → how_many test earlier ≤ 1 → how_many test (earlier ++ rows) ≤ 1
once_after same test alike earlier [] none few = rw append-nil few
once_after same test alike earlier (row ∷ rows) none few =
    let parts = neither (λ place. (place, length earlier)) (position_from (same row) 0 earlier)
    (repeat_after same (earlier ++ row ∷ []) rows) none in
    rw (← append_assoc earlier (row ∷ []) rows) (once_after same test alike (earlier ++ row ∷ []) rows parts.1 (go (test row) refl parts.0))
  where
    go : (b : Bool) → test row ≡ b → position_from (same row) 0 earlier ≡ None → how_many test (earlier ++ row ∷ []) ≤ 1
    go true is new =
        let before = none_before _ test (λ other passes. alike row other is passes) 0 earlier new in
        rw (how_many-append, is) (omega arith)
    go false is new = rw (how_many-append, is) (omega arith)

-- what gives nothing was given nothing
pub unmapped : {X Y : Type 0} (f : X → Y) (o : Option X) → option_map f o ≡ None → o ≡ None
unmapped f None e = refl
unmapped f (Some x) e = cc

-- what rows without a fault have
pub record IsSound (rows : List Row) : Type 0 where
  pub few : length rows ≤ 65536
  pub zero : position (λ row. row.discr == 0) rows ≡ None
  pub discrs : first_repeat same_discr rows ≡ None
  pub addresses : first_repeat same_addresses rows ≡ None

-- rows without a fault
pub sound_rows : (rows : List Row) → build_fault rows ≡ None → IsSound rows
sound_rows rows e = go (nat_lt 65536 (length rows)) refl
  where
    go : (b : Bool) → nat_lt 65536 (length rows) ≡ b → IsSound rows
    go true is = let never : Some (TooMany (length rows)) ≡ None = rw is at e in cc
    go false is =
        let some_zero = option_map ZeroDiscr (position (λ row. row.discr == 0) rows) in
        let later = option_or (pair_fault SameDiscr (first_repeat same_discr rows))
        (pair_fault SameAddresses (first_repeat same_addresses rows)) in
        let first : option_or some_zero later ≡ None = rw is at e in
        let second = neither ZeroDiscr (position (λ row. row.discr == 0) rows) later first in
        let third = neither (λ places. SameDiscr places.0 places.1) (first_repeat same_discr rows)
        (pair_fault SameAddresses (first_repeat same_addresses rows)) second.1 in
        record {
          few = grind (arith, nat_tests);
          zero = second.0;
          discrs = third.0;
          addresses = unmapped (λ places. SameAddresses places.0 places.1) (first_repeat same_addresses rows) third.1;
        }

-- a discriminator comes once
pub discr_once : (rows : List Row) → build_fault rows ≡ None → (discr : ℕ) → how_many (λ row. row.discr == discr) rows ≤ 1
discr_once rows e discr = once_after _ (λ row. row.discr == discr)
    (λ row other here there. rw (eqb-true row.discr discr here, eqb-true other.discr discr there) (grind (arith, nat_tests)))
    [] rows (sound_rows rows e).discrs (omega arith)

-- a kind with its addresses comes once, whichever way round it is compared
pub kind_once : (rows : List Row) → build_fault rows ≡ None → (kind : RowKind) → how_many (λ row. same_selector kind row.kind) rows ≤ 1
kind_once rows e kind = once_after _ (λ row. same_selector kind row.kind)
    (λ row other here there. rw (← same_selector_is kind row.kind here) there) [] rows (sound_rows rows e).addresses (omega arith)

kind_once_back : (rows : List Row) → build_fault rows ≡ None → (kind : RowKind) → how_many (λ row. same_selector row.kind kind) rows ≤ 1
kind_once_back rows e kind = once_after _ (λ row. same_selector row.kind kind)
    (λ row other here there. rw (same_selector_is other.kind kind there) here) [] rows (sound_rows rows e).addresses (omega arith)

-- a row of that name has its discriminator
pub name_matches : (kind : RowKind) (discr : ℕ) (key : Name) → is_eq (name_order.ghosts.cmp (name_in kind discr) key) ≡ true
    → (discr == name_discr key) ≡ true
name_matches Reflect discr (Reflector other) e = cc (nat_level discr other)
name_matches Reflect discr (Session other) e = cc
name_matches kind discr (Session other) e = cc (nat_level discr other)
name_matches kind discr (Reflector other) e = cc

-- the names of rows without a fault come once
pub names_once : (rows : List Row) → build_fault rows ≡ None → HasKeysOnce name_order.ghosts.cmp (names_of rows)
names_once rows sound key =
    let same = how_many-map (λ (entry : Name × Option Port). is_eq (name_order.ghosts.cmp entry.0 key))
    (λ (row : Row). (row_name row, heard_on row.kind)) rows in
    let less = how_many_weaker (λ (row : Row). is_eq (name_order.ghosts.cmp (row_name row) key)) (λ row. row.discr == name_discr key)
    (λ row e. name_matches row.kind row.discr key e) rows in
    omega (arith, discr_once rows sound (name_discr key))

-- the addresses of rows without a fault come once
pub addresses_once : (rows : List Row) → build_fault rows ≡ None → HasKeysOnce kind_order.ghosts.cmp (addresses_of rows)
addresses_once rows sound key =
    let mapped = how_many-map (λ (entry : RowKind × ℕ). is_eq (kind_order.ghosts.cmp entry.0 key)) (λ (row : Row). (row.kind, row.discr))
    (filter (λ row. has_addresses row.kind) rows) in
    let kept = how_many-filter (λ (row : Row). is_eq (kind_order.ghosts.cmp row.kind key)) (λ row. has_addresses row.kind) rows in
    let less = how_many_weaker (λ (row : Row). has_addresses row.kind && is_eq (kind_order.ghosts.cmp row.kind key))
    (λ row. same_selector row.kind key)
    (λ row e. let parts = and_parts (has_addresses row.kind) (is_eq (kind_order.ghosts.cmp row.kind key)) e in
    cc (selector_level row.kind key parts.0)) rows in
    let once = kind_once_back rows sound key in
    omega arith

no_early : (early later : Option BuildFault) → option_or early later ≡ None → early ≡ None
no_early None later e = refl
no_early (Some fault) later e = cc

-- rows without a fault have none that is seen without memory
pub no_early_fault : (rows : List Row) → build_fault rows ≡ None → early_fault rows ≡ None
no_early_fault rows e = no_early (early_fault rows) _ e
