-- What the shards report is what the whole table gives, dealt out.
use Rattle.bfd_replay.proofs.ReportCommon.{◌≡◌, ◌≢◌, ◌⊎◌, inl, inr, ◌<◌, ◌+◌, ◌-◌, ◌*◌, ◌/◌, ◌%◌, ◌==◌, ◌++◌, max, ℕ, zero, suc, List, []}
use Rattle.bfd_replay.proofs.ReportCommon.{◌∷◌, map, refl, sym, ap, ◌∙◌, subst, arith, filter, flat_map, map-append, cases_eq, eq-eqb}
use Rattle.bfd_replay.proofs.ReportCommon.{ne_eqb, Out, Event, tick_items, Running, ShardEvent, Own, Tick, share, later, moved, outcome_of}
use Rattle.bfd_replay.proofs.ReportCommon.{whole_piece, item_piece, event_pieces, Happening, Apart, Among, queue, shard_pieces}
use Rattle.bfd_replay.proofs.ReportCommon.{apart_pieces}
use Rattle.bfd_replay.proofs.ReportCommon.{Dealt, deal, pieces_in, div-add-mod', mul-le, mul-add-mod_self_left, mod-lt, mod-eq_of_lt}
use Rattle.std.proofs.lemmas.List.Elements.{filter-append}
use Rattle.bfd_replay.proofs.Sharing.{own_here, own_gives, own_away, tick_here}
use Rattle.bfd_replay.proofs.Taking.{here, away}

-- the pieces of a tick, of the sessions from place k of the table on
abbrev pub deal_items : ℕ → ℕ → (Running → List Out) → ℕ → List Running → List Dealt
deal_items n number items k [] = []
deal_items n number items k (s ∷ ss) = map (λ o. deal (k % n) (item_piece number o)) (items s) ++ deal_items n number items (k + 1) ss

-- the pieces of an event, each with the shard that reports it
abbrev pub deal_event : ℕ → ℕ → ℕ → ShardEvent → List Running → List Dealt
deal_event n number last (Own k m event) ss = deal (k % n) (whole_piece number (outcome_of last (Own k m event) ss)) ∷ []
deal_event n number last (Tick t) ss = deal_items n number (tick_items (max last t)) 0 ss

-- the pieces of all events, those of no session in the part behind the shards'
abbrev pub deal_all : ℕ → ℕ → ℕ → List Happening → List Running → List Dealt
deal_all n number last [] ss = []
deal_all n number last (Apart o ∷ hs) ss = deal n (whole_piece number o) ∷ deal_all n (number + 1) last hs ss
deal_all n number last (Among e ∷ hs) ss = deal_event n number last e ss ++ deal_all n (number + 1) (later last e) hs (moved last e ss)

in_append : (r : ℕ) (ds es : List Dealt) → pieces_in r (ds ++ es) ≡ pieces_in r ds ++ pieces_in r es
in_append r ds es = cc (
  filter-append (λ d. d.part == r) ds es,
  map-append (λ d. d.piece) (filter (λ d. d.part == r) ds) (filter (λ d. d.part == r) es),
)

-- the places of a table, one after another

-- after as many places as there are shards it is the same shard's turn
turn_over : {n : ℕ} (k : ℕ) → 0 < n → (k + 1 + (n - 1)) % n ≡ k % n
turn_over {n} k some = ap (λ x. x % n) (let one : k + 1 + (n - 1) ≡ n * 1 + k = omega (arith, some) in one) ∙ mul-add-mod_self_left n 1 k

not_less : {q : ℕ} (p n d : ℕ) → q * n ≡ p * n + suc d → q < p + 1 → ⊥
not_less {q} p n d e h = omega (arith, e, mul-le q n p n (omega (arith, h)) (omega arith))

not_more : {q p n d : ℕ} → q * n ≡ p * n + suc d → suc d < n → p < q → ⊥
not_more {q} {p} {n} e h k =
    let m : (p + 1) * n ≡ p * n + n = grind arith in
    omega (arith, e, h, mul-le (p + 1) n q n (omega (arith, k)) (omega arith), m)

below_or : (q p : ℕ) → (q < p + 1) ⊎ (p < q)
below_or q p = grind arith

-- and not before
not_yet : {n : ℕ} (k : ℕ) {d : ℕ} → suc d < n → (k + suc d) % n ≢ k % n
not_yet {n} k {d} h = λ e.
    let apart : (k + suc d) / n * n ≡ k / n * n + suc d = omega (arith, div-add-mod' k n, div-add-mod' (k + suc d) n, e) in
    elim (below_or ((k + suc d) / n) (k / n)) [
      | inl less ↦ not_less _ n d apart less
      | inr more ↦ not_more apart h more
    ]

-- one session's outputs are its shard's, and no other's

items_here : (number : ℕ) {q r : ℕ} (os : List Out) → q ≡ r
    → pieces_in r (map (λ o. deal q (item_piece number o)) os) ≡ map (item_piece number) os
items_here number [] e = refl
items_here number {q} {r} (o ∷ os) e = cc (
  here (deal q (item_piece number o)) (map (λ o. deal q (item_piece number o)) os) r e,
  items_here number os e,
)

items_away : (number q r : ℕ) (os : List Out) → q ≢ r → pieces_in r (map (λ o. deal q (item_piece number o)) os) ≡ []
items_away number q r [] e = refl
items_away number q r (o ∷ os) e = away _ (map (λ o. deal q (item_piece number o)) os) r e ∙ items_away number q r os e

-- what a shard's sessions give at a tick is what the table gives of them
items_in : {n : ℕ} (number : ℕ) (items : Running → List Out) {r : ℕ} (c k : ℕ) (ss : List Running) → 0 < n → c < n → (k + c) % n ≡ r
    → pieces_in r (deal_items n number items k ss) ≡ map (item_piece number) (flat_map items (share n c ss))
unfolding share
items_in number items c k [] some h e = refl
items_in {n} number items {r} zero k (s ∷ ss) some h e =
    cc (
      in_append r (map (λ o. deal (k % n) (item_piece number o)) (items s)) (deal_items n number items (k + 1) ss),
      items_here number (items s) (ap (λ x. x % n) (let z : k ≡ k + 0 = omega arith in z) ∙ e),
      items_in number items _ _ ss some (omega (arith, some))
          (turn_over k some ∙ (ap (λ x. x % n) (let z : k ≡ k + 0 = omega arith in z) ∙ e)),
      map-append (item_piece number) (items s) (flat_map items (share n (n - 1) ss)),
    )
items_in {n} number items {r} (suc c) k (s ∷ ss) some h e =
    cc (
      in_append r (map (λ o. deal (k % n) (item_piece number o)) (items s)) (deal_items n number items (k + 1) ss),
      items_away number (k % n) r (items s) (λ z. not_yet k h (cc)),
      items_in number items c _ ss some (omega (arith, h)) (ap (λ x. x % n) (let z : k + 1 + c ≡ k + suc c = omega arith in z) ∙ e),
    )

-- none of a tick's outputs is reported apart from the sessions
items_none : {n : ℕ} (number : ℕ) (items : Running → List Out) (k : ℕ) (ss : List Running) → 0 < n
    → pieces_in n (deal_items n number items k ss) ≡ []
items_none number items k [] some = refl
items_none {n} number items k (s ∷ ss) some =
    cc (
      in_append n (map (λ o. deal (k % n) (item_piece number o)) (items s)) (deal_items n number items (k + 1) ss),
      items_away number (k % n) n (items s) (λ z. omega (arith, mod-lt k some, z)),
      items_none number items (k + 1) ss some,
    )

-- what a shard reports

own_each : {n : ℕ} (number last k m : ℕ) (event : Event) (hs : List Happening) (ss : List Running) → 0 < n
    → shard_pieces last (queue n (k % n) (number + 1) hs) (share n (k % n) (moved last (Own k m event) ss))
    ≡ pieces_in (k % n) (deal_all n (number + 1) last hs (moved last (Own k m event) ss))
    → shard_pieces last (queue n (k % n) number (Among (Own k m event) ∷ hs)) (share n (k % n) ss)
    ≡ pieces_in (k % n) (deal_all n number last (Among (Own k m event) ∷ hs) ss)
own_each {n} number last k m event hs ss some rest =
    cc (
      eq-eqb (k % n) (k % n) refl,
      own_gives n k m last event ss some,
      own_here k m last event ss some,
      here (deal (k % n) (whole_piece number (outcome_of last (Own k m event) ss)))
          (deal_all n (number + 1) last hs (moved last (Own k m event) ss)) (k % n) refl,
    )

own_others : {n : ℕ} (number last : ℕ) {r : ℕ} (k m : ℕ) (event : Event) (hs : List Happening) (ss : List Running) → 0 < n → r < n
    → k % n ≢ r
    → shard_pieces last (queue n r (number + 1) hs) (share n r (moved last (Own k m event) ss))
    ≡ pieces_in r (deal_all n (number + 1) last hs (moved last (Own k m event) ss))
    → shard_pieces last (queue n r number (Among (Own k m event) ∷ hs)) (share n r ss)
    ≡ pieces_in r (deal_all n number last (Among (Own k m event) ∷ hs) ss)
own_others {n} number last {r} k m event hs ss some h other rest =
    cc (
      ne_eqb (k % n) r other,
      own_away n r k m last event ss some h other,
      away (deal (k % n) (whole_piece number (outcome_of last (Own k m event) ss)))
          (deal_all n (number + 1) last hs (moved last (Own k m event) ss)) r other,
    )

pub tick_gives : (number last t : ℕ) (ss : List Running)
    → event_pieces number (Tick t) (outcome_of last (Tick t) ss) ≡ map (item_piece number) (flat_map (tick_items (max last t)) ss)
unfolding outcome_of
tick_gives number last t ss = refl

in_turn : {n r : ℕ} → r < n → (0 + r) % n ≡ r
in_turn {n} {r} h = ap (λ x. x % n) (let z : 0 + r ≡ r = omega arith in z) ∙ mod-eq_of_lt h

tick_each : {n : ℕ} (number last : ℕ) {r : ℕ} (t : ℕ) (hs : List Happening) (ss : List Running) → 0 < n → r < n
    → shard_pieces (max last t) (queue n r (number + 1) hs) (share n r (moved last (Tick t) ss))
    ≡ pieces_in r (deal_all n (number + 1) (max last t) hs (moved last (Tick t) ss))
    → shard_pieces last (queue n r number (Among (Tick t) ∷ hs)) (share n r ss)
    ≡ pieces_in r (deal_all n number last (Among (Tick t) ∷ hs) ss)
tick_each {n} number last {r} t hs ss some h rest =
    cc (
      tick_gives number last t (share n r ss),
      tick_here n r t last ss,
      items_in number (tick_items (max last t)) r 0 ss some h (in_turn h),
      in_append r (deal_items n number (tick_items (max last t)) 0 ss) (deal_all n (number + 1) (max last t) hs (moved last (Tick t) ss)),
    )

pub reported_each : {n : ℕ} (number last : ℕ) {r : ℕ} (hs : List Happening) (ss : List Running) → 0 < n → r < n
    → shard_pieces last (queue n r number hs) (share n r ss) ≡ pieces_in r (deal_all n number last hs ss)
reported_each number last [] ss some h = refl
reported_each {n} number last {r} (Apart o ∷ hs) ss some h =
    reported_each (number + 1) last hs ss some h ∙ sym (away (deal n (whole_piece number o)) (deal_all n (number + 1) last hs ss) r
    (λ z. omega (arith, z, h)))
reported_each {n} number last {r} (Among (Own k m event) ∷ hs) ss some h = elim (cases_eq (k % n) r) [
  | inl same ↦ subst (λ i. shard_pieces last (queue n i number (Among (Own k m event) ∷ hs)) (share n i ss)
      ≡ pieces_in i (deal_all n number last (Among (Own k m event) ∷ hs) ss)) same
      (own_each _ last k m _ hs ss some (reported_each (number + 1) last hs (moved last (Own k m event) ss) some (mod-lt k some)))
  | inr other ↦ own_others _ last k m _ hs ss some h other (reported_each (number + 1) last hs (moved last (Own k m event) ss) some h)
]
reported_each number last (Among (Tick t) ∷ hs) ss some h =
    tick_each _ last t hs ss some h (reported_each (number + 1) (max last t) hs (moved last (Tick t) ss) some h)

-- what is reported apart from the sessions
pub apart_is : {n : ℕ} (number last : ℕ) (hs : List Happening) (ss : List Running) → 0 < n
    → apart_pieces number hs ≡ pieces_in n (deal_all n number last hs ss)
apart_is number last [] ss some = refl
apart_is {n} number last (Apart o ∷ hs) ss some =
    cc (apart_is (number + 1) last hs ss some, here (deal n (whole_piece number o)) (deal_all n (number + 1) last hs ss) n refl)
apart_is {n} number last (Among (Own k m event) ∷ hs) ss some = apart_is (number + 1) last hs (moved last (Own k m event) ss) some
    ∙ sym (away (deal (k % n) (whole_piece number (outcome_of last (Own k m event) ss)))
    (deal_all n (number + 1) last hs (moved last (Own k m event) ss)) n (λ z. omega (arith, mod-lt k some, z)))
apart_is {n} number last (Among (Tick t) ∷ hs) ss some =
    cc (
      apart_is (number + 1) (max last t) hs (moved last (Tick t) ss) some,
      in_append n (deal_items n number (tick_items (max last t)) 0 ss) (deal_all n (number + 1) (max last t) hs (moved last (Tick t) ss)),
      items_none number (tick_items (max last t)) 0 ss some,
    )
