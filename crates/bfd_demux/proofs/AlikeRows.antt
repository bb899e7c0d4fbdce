-- Walking rows from the front: what the next row adds.
use Rattle.bfd_demux.proofs.Common.{◌≡◌, ℕ, ◌+◌, ◌<◌, Bool, true, false, cond, ◌==◌, ◌&&◌, List, [], ◌∷◌, ◌++◌, length, get_or, take, drop}
use Rattle.bfd_demux.proofs.Common.{refl, sym, ◌∙◌, ap, arith, Option, Some, None, add-one, drop-cons, add-zero, suc, nat_tests}
use Rattle.bfd_demux.proofs.Common.{position_from, option_map, option_or, nat_cmp, is_eq, ordering_then, Ordering, Equal, Row, RowKind}
use Rattle.bfd_demux.proofs.Common.{Single, Multi, Initiator, Reflect, Head, Tail, eq_by_cmp_equiv, and_parts, eqb-true, repeat_after}
use Rattle.bfd_demux.proofs.Common.{same_selector, has_addresses, total-law}
use Rattle.std.proofs.Math.Seq.{take-suc}
use Rattle.std.proofs.lemmas.Grind.{common_steps}
use Rattle.bfd_packet.specs.declared.arrival.Addr.{Addr}
use Rattle.bfd_packet.specs.declared.arrival.Addr.TheVariants.{V4, V6}
use Rattle.bfd_packet.specs.contracts.arrival.AddrOrd.TheImpl as addrs
use Rattle.bfd_packet.specs.Addresses.{same_addr}
use Rattle.bfd_demux.specs.contracts.row.RowKindOrd.TheImpl as kinds

-- one more element at the end is found where none before it is
position_from-push : {X : Type 0} (p : X → Bool) (n : ℕ) (xs : List X) (x : X)
    → position_from p n (xs ++ x ∷ []) ≡ option_or (position_from p n xs) (cond (p x) (Some (n + length xs)) None)
position_from-push p n [] x = rw add-zero refl
position_from-push p n (y ∷ ys) x =
    elim (p y) as (λ b. cond b (Some n) (position_from p (n + 1) (ys ++ x ∷ []))
    ≡ option_or (cond b (Some n) (position_from p (n + 1) ys)) (cond (p x) (Some (n + suc (length ys))) None)) [
      | true ↦ refl
      | false ↦ position_from-push p (n + 1) ys x ∙ ap (λ k. option_or (position_from p (n + 1) ys) (cond (p x) (Some k) None))
          (omega arith)
    ]

-- the place of x, which stands at i, or of an earlier one
position_from-take : {X : Type 0} (p : X → Bool) (xs : List X) {i : ℕ} {x : X} → i < length xs → x ≡ get_or xs i x
    → position_from p 0 (take (i + 1) xs) ≡ option_or (position_from p 0 (take i xs)) (cond (p x) (Some i) None)
position_from-take p xs {i} {x} lt is =
    let seen : take (i + 1) xs ≡ take i xs ++ x ∷ [] = rw (add-one, take-suc xs i x lt, ← is) refl in
    let long : 0 + length (take i xs) ≡ i = grind (arith, common_steps) in
    rw (seen, position_from-push, long) refl

-- the rows from place i on, seen after those before it
repeat_after-drop : (same : Row → Row → Bool) (rows : List Row) {i : ℕ} {row : Row} → i < length rows → row ≡ get_or rows i row
    → repeat_after same (take i rows) (drop i rows) ≡ option_or (option_map (λ place. (place, i))
    (position_from (same row) 0 (take i rows))) (repeat_after same (take (i + 1) rows) (drop (i + 1) rows))
repeat_after-drop same rows {i} {row} lt is =
    let next : drop i rows ≡ row ∷ drop (i + 1) rows = rw (add-one, drop-cons rows i row lt, ← is) refl in
    let seen : take (i + 1) rows ≡ take i rows ++ row ∷ [] = rw (add-one, take-suc rows i row lt, ← is) refl in
    let long : length (take i rows) ≡ i = grind (arith, common_steps) in
    rw (next, long, seen) refl

-- the row at i is like an earlier one
pub repeated_here : (same : Row → Row → Bool) (rows : List Row) {i : ℕ} {row : Row} {earlier : ℕ} → i < length rows → row ≡ get_or rows i
    row → Some earlier ≡ position_from (same row) 0 (take i rows) → repeat_after same (take i rows) (drop i rows) ≡ Some (earlier, i)
repeated_here same rows lt is found = repeat_after-drop same rows lt is ∙ rw (← found) refl

-- the row at i is like no earlier one
pub repeated_later : (same : Row → Row → Bool) (rows : List Row) {i : ℕ} {row : Row} → i < length rows → row ≡ get_or rows i row
    → None ≡ position_from (same row) 0 (take i rows)
    → repeat_after same (take (i + 1) rows) (drop (i + 1) rows) ≡ repeat_after same (take i rows) (drop i rows)
repeated_later same rows lt is none = sym (repeat_after-drop same rows lt is ∙ rw (← none) refl)

pub nat_level : (a b : ℕ) → is_eq (nat_cmp a b) ≡ (a == b)
nat_level a b = grind (arith, nat_tests)

-- the numbers compare Equal either way where one is the other
pub nat_level_back : (a b : ℕ) → is_eq (nat_cmp a b) ≡ (b == a)
nat_level_back a b = grind (arith, nat_tests)

-- a key's entry after an insert, where the key had none
entry_more : (at here : Bool) (i : ℕ) (old : Option ℕ) → at ≡ here → (here ≡ true → old ≡ None)
    → cond at (Some i) old ≡ option_or old (cond here (Some i) None)
entry_more at true i old e none = rw (e, none refl) refl
entry_more at false i None e none = rw e refl
entry_more at false i (Some earlier) e none = rw e refl

-- the first places of the discriminators, after the row at i
pub discrs_more : (rows : List Row) {i : ℕ} {row : Row} {old new : ℕ → Option ℕ} → i < length rows → row ≡ get_or rows i row →
    ((q : ℕ) → old q ≡ position_from (λ other. q == other.discr) 0 (take i rows)) →
    ((q : ℕ) → new q ≡ cond (is_eq (nat_cmp row.discr q)) (Some i) (old q)) → None ≡ old row.discr →
    (q : ℕ) → new q ≡ position_from (λ other. q == other.discr) 0 (take (i + 1) rows)
discrs_more rows {i} {row} {old} lt is were are none q =
    cc (
      are q,
      entry_more _ (q == row.discr) i (old q) (nat_level_back _ _)
          (λ e. let same : q ≡ row.discr = grind (arith, nat_tests) in cc),
      were q,
      position_from-take (λ other. q == other.discr) rows lt is,
    )

then_level : (a b : Ordering) {p q : Bool} → is_eq a ≡ p → is_eq b ≡ q → is_eq (ordering_then a b) ≡ (p && q)
then_level Equal b e f = rw (← e) f
then_level a b e f = rw (← e) refl

pub and_assoc : (p q r : Bool) → (p && (q && r)) ≡ ((p && q) && r)
and_assoc true q r = refl
and_assoc false q r = refl

-- two addresses compare Equal where one is the other
addr_level : (a b : Addr) → is_eq (addrs.ghosts.cmp a b) ≡ same_addr a b
addr_level (V4 a) (V4 b) = nat_level a b
addr_level (V6 a) (V6 b) = nat_level a b
addr_level a b = refl

-- two kinds of which one has addresses compare Equal when a packet doesn't distinguish them
pub selector_level : (a b : RowKind) → has_addresses a ≡ true → is_eq (kinds.ghosts.cmp a b) ≡ same_selector a b
selector_level (Single i l r) (Single i' l' r') h =
    then_level _ _ (nat_level i i') (then_level _ _ (addr_level l l') (addr_level r r'))
    ∙ and_assoc (i == i') (same_addr l l') (same_addr r r')
selector_level (Multi l r) (Multi l' r') h = then_level _ _ (addr_level l l') (addr_level r r')
selector_level (Tail d i g s) (Tail d' i' g' s') h =
    then_level _ _ (nat_level d d') (then_level _ _ (nat_level i i') (then_level _ _ (addr_level g g') (addr_level s s')))
    ∙ and_assoc (d == d') (i == i') (same_addr g g' && same_addr s s')
    ∙ and_assoc ((d == d') && (i == i')) (same_addr g g') (same_addr s s')
selector_level a b h = cc

-- the order's own symmetry: a key found the one way round is found the other
pub selector_level_back : (a b : RowKind) → has_addresses b ≡ true → is_eq (kinds.ghosts.cmp a b) ≡ same_selector b a
selector_level_back a b h = (eq_by_cmp_equiv total-law).symm a b ∙ selector_level b a h

-- an address that is the other is equal to it
same_addr_is : (a b : Addr) → same_addr a b ≡ true → a ≡ b
same_addr_is (V4 a) (V4 b) e = ap V4 (grind (arith, nat_tests))
same_addr_is (V6 a) (V6 b) e = ap V6 (grind (arith, nat_tests))
same_addr_is a b e = cc

-- kinds that a packet doesn't distinguish are equal
pub same_selector_is : (a b : RowKind) → same_selector a b ≡ true → a ≡ b
same_selector_is (Single i l r) (Single i' l' r') e =
    let outer = and_parts ((i == i') && same_addr l l') (same_addr r r') e in
    let inner = and_parts (i == i') (same_addr l l') outer.0 in
    cc (eqb-true i i' inner.0, same_addr_is l l' inner.1, same_addr_is r r' outer.1)
same_selector_is (Multi l r) (Multi l' r') e =
    let outer = and_parts (same_addr l l') (same_addr r r') e in
    cc (same_addr_is l l' outer.0, same_addr_is r r' outer.1)
same_selector_is (Tail d i g s) (Tail d' i' g' s') e =
    let outer = and_parts ((d == d') && (i == i') && same_addr g g') (same_addr s s') e in
    let inner = and_parts ((d == d') && (i == i')) (same_addr g g') outer.0 in
    let first = and_parts (d == d') (i == i') inner.0 in
    cc (eqb-true d d' first.0, eqb-true i i' first.1, same_addr_is g g' inner.1, same_addr_is s s' outer.1)
same_selector_is a b e = cc

-- a kind without addresses differs from all others
pub unaddressed : (a b : RowKind) → has_addresses a ≡ false → same_selector a b ≡ false
unaddressed Initiator b h = refl
unaddressed Reflect b h = refl
unaddressed Head b h = refl
unaddressed a b h = cc

pub unaddressed_back : (a b : RowKind) → has_addresses b ≡ false → same_selector a b ≡ false
unaddressed_back (Single _ _ _) (Single _ _ _) h = cc
unaddressed_back (Multi _ _) (Multi _ _) h = cc
unaddressed_back (Tail _ _ _ _) (Tail _ _ _ _) h = cc
unaddressed_back a b h = cc

-- what no element passes is found nowhere
pub position_from-none : {X : Type 0} {p : X → Bool} → ((x : X) → p x ≡ false) → (n : ℕ) (xs : List X) → position_from p n xs ≡ None
position_from-none never n [] = refl
position_from-none never n (x ∷ xs) = rw (never x, position_from-none never (n + 1) xs) refl

-- the first places of the kinds with addresses, after the row at i
pub kinds_more : (rows : List Row) {i : ℕ} {row : Row} {old : RowKind → Option ℕ} (new : RowKind → Option ℕ) → i < length rows
    → row ≡ get_or rows i row →
    has_addresses row.kind ≡ true → ((q : RowKind) → has_addresses q ≡ true
    → old q ≡ position_from (λ other. same_selector q other.kind) 0 (take i rows)) →
    ((q : RowKind) → new q ≡ cond (is_eq (kinds.ghosts.cmp row.kind q)) (Some i) (old q)) → None ≡ old row.kind →
    (q : RowKind) → has_addresses q ≡ true → new q ≡ position_from (λ other. same_selector q other.kind) 0 (take (i + 1) rows)
kinds_more rows {i} {row} {old} new lt is with_addresses were are none q h =
    cc (
      are q,
      entry_more _ (same_selector q row.kind) i (old q) (selector_level_back _ _ h) (λ e. cc (same_selector_is q _ e)),
      were q h,
      position_from-take (λ other. same_selector q other.kind) rows lt is,
    )

option_or-none : {X : Type 0} (o : Option X) → option_or o None ≡ o
option_or-none None = refl
option_or-none (Some x) = refl

-- the same where the row at i has no addresses
pub kinds_same : (rows : List Row) {i : ℕ} {row : Row} {old : RowKind → Option ℕ} → i < length rows → row ≡ get_or rows i row
    → has_addresses row.kind ≡ false →
    ((q : RowKind) → has_addresses q ≡ true → old q ≡ position_from (λ other. same_selector q other.kind) 0 (take i rows)) →
    (q : RowKind) → has_addresses q ≡ true → old q ≡ position_from (λ other. same_selector q other.kind) 0 (take (i + 1) rows)
kinds_same rows {row} lt is without were q h = were q h ∙ sym (position_from-take (λ other. same_selector q other.kind) rows lt is
    ∙ rw (unaddressed_back q row.kind without) (option_or-none _))
