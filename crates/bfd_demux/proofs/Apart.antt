-- Where each key comes once, no row is like an earlier one.
use Rattle.bfd_demux.proofs.Common.{◌≡◌, ◌≤◌, ℕ, ◌+◌, Bool, true, false, cond, ◌&&◌, List, [], ◌∷◌, ◌++◌, refl, sym, ◌∙◌, ap, arith, None}
use Rattle.bfd_demux.proofs.Common.{append_assoc, inl, inr, ◌⊎◌, filter, position_from, nat_cmp, is_eq, tied_itself, eq-eqb, Row, RowKind}
use Rattle.bfd_demux.proofs.Common.{repeat_after, first_repeat, same_discr, same_addresses, same_selector, has_addresses, discrs_of}
use Rattle.bfd_demux.proofs.Common.{addresses_of, how_many, HasKeysOnce, total-law}
use Rattle.bfd_demux.specs.contracts.row.RowKindOrd.TheImpl as kind_order
use Rattle.bfd_demux.proofs.AlikeRows.{nat_level_back, selector_level, selector_level_back, same_selector_is, unaddressed}
use Rattle.bfd_demux.proofs.AlikeRows.{position_from-none}
use Rattle.bfd_demux.proofs.Ascending.{how_many-cons}
use Rattle.bfd_demux.proofs.Once.{how_many-append, how_many-map, how_many-filter, how_many_weaker}

-- a test that no element passes finds no place
pub nowhere : {X : Type 0} (test : X → Bool) (n : ℕ) (xs : List X) → how_many test xs ≤ 0 → position_from test n xs ≡ None
nowhere test n [] few = refl
nowhere test n (x ∷ xs) few = go (nowhere test (n + 1) xs) (test x) refl
  where
    counted : how_many test (x ∷ xs) ≡ cond (test x) 1 0 + how_many test xs
    counted = how_many-cons test x xs

    go : (how_many test xs ≤ 0 → position_from test (n + 1) xs ≡ None) → (b : Bool) → test x ≡ b → position_from test n (x ∷ xs) ≡ None
    go rest true is = let one : how_many test (x ∷ xs) ≡ 1 + how_many test xs = counted ∙ rw is refl in absurd (omega arith)
    go rest false is =
        let none : how_many test (x ∷ xs) ≡ 0 + how_many test xs = counted ∙ rw is refl in
        rw is (rest (omega arith))

-- rows of which each is like one at most, and that one is itself: none is like an earlier one
pub apart_after : (same : Row → Row → Bool) → ((row : Row) → (same row row ≡ true) ⊎ ((other : Row) → same row other ≡ false))
    → (earlier rows : List Row) →
    ((row : Row) → how_many (same row) (earlier ++ rows) ≤ 1) → repeat_after same earlier rows ≡ None
apart_after same alike earlier [] once = refl
apart_after same alike earlier (row ∷ rows) once =
    rw new (apart_after same alike (earlier ++ row ∷ []) rows (λ other. rw (append_assoc earlier (row ∷ []) rows) (once other)))
  where
    new : position_from (same row) 0 earlier ≡ None
    new = elim (alike row) [
      | inl itself ↦
          let counted = how_many-append (same row) earlier (row ∷ rows) in
          let here : how_many (same row) (row ∷ rows) ≡ 1 + how_many (same row) rows = how_many-cons (same row) row rows ∙ rw itself refl in
          let most = once row in
          nowhere (same row) 0 earlier (omega arith)
      | inr never ↦ position_from-none never 0 earlier
    ]

-- rows whose discriminators each come once
pub discrs_apart : (rows : List Row) → HasKeysOnce nat_cmp (discrs_of rows) → first_repeat same_discr rows ≡ None
discrs_apart rows once = apart_after same_discr (λ row. inl (eq-eqb row.discr row.discr refl)) [] rows (λ row.
    let mapped = how_many-map (λ (entry : ℕ × Unit {0}). is_eq (nat_cmp entry.0 row.discr)) (λ (other : Row). (other.discr, tt)) rows in
    let less = how_many_weaker (same_discr row) (λ other. is_eq (nat_cmp other.discr row.discr))
    (λ other e. nat_level_back other.discr row.discr ∙ e) rows in
    omega (arith, once row.discr))

-- a kind with addresses is like itself, and any other like none
pub alike_or_never : (a : RowKind) (b : Bool) → has_addresses a ≡ b
    → (same_selector a a ≡ true) ⊎ ((other : Row) → same_selector a other.kind ≡ false)
alike_or_never a true h = inl (cc (selector_level a a h, tied_itself total-law a))
alike_or_never a false h = inr (λ other. unaddressed a other.kind h)

-- a kind that is like another has addresses, and compares Equal
alike_level : (a b : RowKind) → same_selector a b ≡ true → (has_addresses b && is_eq (kind_order.ghosts.cmp b a)) ≡ true
alike_level a b e = go (has_addresses a) refl
  where
    go : (c : Bool) → has_addresses a ≡ c → (has_addresses b && is_eq (kind_order.ghosts.cmp b a)) ≡ true
    go true h =
        let also : has_addresses b ≡ true = ap has_addresses (sym (same_selector_is a b e)) ∙ h in
        rw (also, selector_level_back b a h) e
    go false h = let never = unaddressed a b h in cc

-- rows whose kinds and addresses each come once
pub addresses_apart : (rows : List Row) → HasKeysOnce kind_order.ghosts.cmp (addresses_of rows) → first_repeat same_addresses rows ≡ None
addresses_apart rows once = apart_after same_addresses (λ row. alike_or_never row.kind (has_addresses row.kind) refl) [] rows (λ row.
    let mapped = how_many-map (λ (entry : RowKind × ℕ). is_eq (kind_order.ghosts.cmp entry.0 row.kind))
    (λ (other : Row). (other.kind, other.discr)) (filter (λ other. has_addresses other.kind) rows) in
    let kept = how_many-filter (λ (other : Row). is_eq (kind_order.ghosts.cmp other.kind row.kind)) (λ other. has_addresses other.kind) rows
    in
    let less = how_many_weaker (same_addresses row) (λ (other : Row). has_addresses other.kind && is_eq
    (kind_order.ghosts.cmp other.kind row.kind)) (λ other e. alike_level row.kind other.kind e) rows in
    omega (arith, once row.kind))
