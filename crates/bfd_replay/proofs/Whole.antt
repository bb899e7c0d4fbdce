-- The parts of a replay have the pieces of its report, in its order, and their text is the report's lines.
use Rattle.bfd_replay.proofs.ReportCommon.{◌≡◌, inl, inr, ◌<◌, ◌≤◌, ◌+◌, ◌*◌, ◌%◌, ◌++◌, max, ℕ, suc, List, [], ◌∷◌, length, map, refl, sym}
use Rattle.bfd_replay.proofs.ReportCommon.{ap, ◌∙◌, append-nil, arith, AllByRecursion, flat_map, map-append, sum_by-append, sum_by-cons}
use Rattle.bfd_replay.proofs.ReportCommon.{Out, Outcome, tick_items, Running, discr_of, configs_of, ShardEvent, Own, Tick, later, moved}
use Rattle.bfd_replay.proofs.ReportCommon.{outcome_of, item_line, event_lines, lines_from, packets_sent_by, packets_sent, dropped}
use Rattle.bfd_replay.proofs.ReportCommon.{done_line, report, Piece, whole_piece, item_piece, event_pieces, Happening, Apart, Among}
use Rattle.bfd_replay.proofs.ReportCommon.{happening_outcomes, whole_pieces, AreParts, Dealt, deal, IsBefore, Ordered, IsSpread}
use Rattle.bfd_replay.proofs.ReportCommon.{AreGathered}
use Rattle.bfd_replay.proofs.ReportCommon.{dealt_text, sum_by, moved_configs, flat_map-append, named, each_more, mod-lt}
use Rattle.bfd_session.specs.Rows.{Ascends}
use Rattle.bfd_replay.specs.Counts.{counts_of}
use Rattle.bfd_replay.specs.declared.report.counts.Counts.{Counts}
use Rattle.bfd_session.proofs.Naming.{tick_named}
use Rattle.bfd_replay.proofs.Keys.{earlier, lower}
use Rattle.bfd_replay.proofs.Scan.{before_or_at}
use Rattle.bfd_replay.proofs.Taking.{txs_of, drops_of}
use Rattle.bfd_replay.proofs.Dealing.{deal_items, deal_event, deal_all, tick_gives, reported_each, apart_is}

-- every piece has its part

session_within : (number q n : ℕ) (os : List Out) → q < n → AllByRecursion (λ d. d.part < n) (map (λ o. deal q (item_piece number o)) os)
session_within number q n [] h = tt
session_within number q n (o ∷ os) h = (h, session_within number q n os h)

items_within : {n : ℕ} (number : ℕ) (items : Running → List Out) (k : ℕ) (ss : List Running) → 0 < n
    → AllByRecursion (λ d. d.part < n + 1) (deal_items n number items k ss)
items_within number items k [] some = tt
items_within {n} number items k (s ∷ ss) some =
    each_more (λ d. d.part < n + 1) (map (λ o. deal (k % n) (item_piece number o)) (items s)) (deal_items n number items (k + 1) ss)
    (session_within number (k % n) (n + 1) (items s) (omega (arith, mod-lt k some))) (items_within number items (k + 1) ss some)

all_within : {n : ℕ} (number last : ℕ) (hs : List Happening) (ss : List Running) → 0 < n
    → AllByRecursion (λ d. d.part < n + 1) (deal_all n number last hs ss)
all_within number last [] ss some = tt
all_within number last (Apart o ∷ hs) ss some = (omega arith, all_within (number + 1) last hs ss some)
all_within number last (Among (Own k m event) ∷ hs) ss some =
    (omega (arith, mod-lt k some), all_within (number + 1) last hs (moved last (Own k m event) ss) some)
all_within {n} number last (Among (Tick t) ∷ hs) ss some =
    each_more (λ d. d.part < n + 1) (deal_items n number (tick_items (max last t)) 0 ss)
    (deal_all n (number + 1) (max last t) hs (moved last (Tick t) ss))
    (items_within number (tick_items (max last t)) 0 ss some) (all_within (number + 1) (max last t) hs (moved last (Tick t) ss) some)

-- pieces of an event, and of events from one on

abbrev pub OfEvent : ℕ → List Dealt → Type 0
OfEvent number ds = AllByRecursion (λ d. d.piece.key.event ≡ number) ds

abbrev pub From : ℕ → List Dealt → Type 0
From number ds = AllByRecursion (λ d. number ≤ d.piece.key.event) ds

session_of : (number q : ℕ) (os : List Out) → OfEvent number (map (λ o. deal q (item_piece number o)) os)
session_of number q [] = tt
session_of number q (o ∷ os) = (refl, session_of number q os)

items_of : (n number : ℕ) (items : Running → List Out) (k : ℕ) (ss : List Running) → OfEvent number (deal_items n number items k ss)
items_of n number items k [] = tt
items_of n number items k (s ∷ ss) =
    each_more (λ d. d.piece.key.event ≡ number) (map (λ o. deal (k % n) (item_piece number o)) (items s))
    (deal_items n number items (k + 1) ss)
    (session_of number (k % n) (items s)) (items_of n number items (k + 1) ss)

event_of : (n number last : ℕ) (e : ShardEvent) (ss : List Running) → OfEvent number (deal_event n number last e ss)
event_of n number last (Own k m event) ss = (refl, tt)
event_of n number last (Tick t) ss = items_of n number (tick_items (max last t)) 0 ss

of_from : (number : ℕ) (ds : List Dealt) → OfEvent number ds → From number ds
of_from number [] h = tt
of_from number (d ∷ ds) h = (omega (arith, h.0), of_from _ ds h.1)

from_less : (number : ℕ) (ds : List Dealt) → From (number + 1) ds → From number ds
from_less number [] h = tt
from_less number (d ∷ ds) h = (omega (arith, h.0), from_less _ ds h.1)

all_from : (n number last : ℕ) (hs : List Happening) (ss : List Running) → From number (deal_all n number last hs ss)
all_from n number last [] ss = tt
all_from n number last (Apart o ∷ hs) ss = (omega arith, from_less _ _ (all_from n (number + 1) last hs ss))
all_from n number last (Among e ∷ hs) ss =
    each_more (λ d. number ≤ d.piece.key.event) (deal_event n number last e ss)
    (deal_all n (number + 1) (later last e) hs (moved last e ss))
    (of_from _ _ (event_of n number last e ss)) (from_less _ _ (all_from n (number + 1) (later last e) hs (moved last e ss)))

-- a piece is before those of later events
before_later : (number : ℕ) (d : Dealt) (es : List Dealt) → d.piece.key.event ≡ number → From (number + 1) es
    → AllByRecursion (IsBefore d) es
before_later number d [] e h = tt
before_later number d (x ∷ es) e h = (inr (earlier d.piece.key x.piece.key (omega (arith, e, h.0))), before_later _ d es e h.1)

event_first : (number : ℕ) (ds es : List Dealt) → OfEvent number ds → Ordered ds → From (number + 1) es → Ordered es → Ordered (ds ++ es)
event_first number [] es h o f p = p
event_first number (d ∷ ds) es h o f p = (each_more (IsBefore d) ds es o.0 (before_later _ d es h.0 f), event_first _ ds es h.1 o.1 f p)

-- the pieces of a tick ascend with the sessions

abbrev pub IsLaterItem : ℕ → ℕ → Dealt → Type 0
IsLaterItem number discr d = (d.piece.key.event ≡ number) × (discr < d.piece.key.discr)

abbrev pub Names : ℕ → List Out → Type 0
Names discr os = AllByRecursion (λ o. named o ≡ discr) os

session_later : (number q : ℕ) {discr own : ℕ} (os : List Out) → discr < own → Names own os
    → AllByRecursion (IsLaterItem number discr) (map (λ o. deal q (item_piece number o)) os)
session_later number q [] h n = tt
session_later number q (o ∷ os) h n = ((refl, omega (arith, h, n.0)), session_later number q os h n.1)

same_part : (number q : ℕ) (o : Out) (os : List Out)
    → AllByRecursion (IsBefore (deal q (item_piece number o))) (map (λ x. deal q (item_piece number x)) os)
same_part number q o [] = tt
same_part number q o (x ∷ os) = (inl refl, same_part number q o os)

before_item : (number q discr : ℕ) (o : Out) (es : List Dealt) → named o ≡ discr → AllByRecursion (IsLaterItem number discr) es
    → AllByRecursion (IsBefore (deal q (item_piece number o))) es
before_item number q discr o [] n h = tt
before_item number q discr o (x ∷ es) n h = (inr (lower (sym h.0.0) (omega (arith, n, h.0.1))), before_item _ q _ o es n h.1)

session_first : (number q discr : ℕ) (os : List Out) (es : List Dealt) → Names discr os → AllByRecursion (IsLaterItem number discr) es
    → Ordered es
    → Ordered (map (λ o. deal q (item_piece number o)) os ++ es)
session_first number q discr [] es n h o = o
session_first number q discr (x ∷ os) es n h o = (
  each_more (IsBefore (deal q (item_piece number x))) (map (λ y. deal q (item_piece number y)) os) es (same_part number q x os)
      (before_item _ q _ x es n.0 h),
  session_first _ q _ os es n.1 h o,
)

module _ (items : Running → List Out) (names : (s : Running) → Names (discr_of s.config) (items s)) where
  items_later : (n number discr k : ℕ) (ss : List Running) → AllByRecursion (λ c. discr < discr_of c) (configs_of ss)
      → AllByRecursion (IsLaterItem number discr) (deal_items n number items k ss)
  items_later n number discr k [] h = tt
  items_later n number discr k (s ∷ ss) h =
      each_more (IsLaterItem number discr) (map (λ o. deal (k % n) (item_piece number o)) (items s)) (deal_items n number items (k + 1) ss)
      (session_later number (k % n) _ h.0 (names s)) (items_later n number _ (k + 1) ss h.1)

  items_ordered : (n number k : ℕ) (ss : List Running) → Ascends (configs_of ss) → Ordered (deal_items n number items k ss)
  items_ordered n number k [] h = tt
  items_ordered n number k (s ∷ ss) h = session_first _ (k % n) _ _ _ (names s) (items_later n number _ (k + 1) ss h.0)
      (items_ordered n number (k + 1) ss h.1)

event_ordered : (n number last : ℕ) (e : ShardEvent) (ss : List Running) → Ascends (configs_of ss) → Ordered (deal_event n number last e ss)
event_ordered n number last (Own k m event) ss h = (tt, tt)
event_ordered n number last (Tick t) ss h =
    items_ordered (tick_items (max last t)) (λ s. tick_named s (1000 * max last t) (max (1000 * max last t) s.vars.at)) n number 0 ss h

all_ordered : (n number last : ℕ) (hs : List Happening) (ss : List Running) → Ascends (configs_of ss)
    → Ordered (deal_all n number last hs ss)
all_ordered n number last [] ss h = tt
all_ordered n number last (Apart o ∷ hs) ss h =
    (before_later _ (deal n (whole_piece number o)) _ refl (all_from n (number + 1) last hs ss), all_ordered n (number + 1) last hs ss h)
all_ordered n number last (Among e ∷ hs) ss h = event_first _ _ _
    (event_of n number last e ss) (event_ordered n number last e ss h) (all_from n (number + 1) (later last e) hs (moved last e ss))
    (all_ordered n (number + 1) (later last e) hs (moved last e ss) (rw (moved_configs last e ss) h))

-- the parts of a replay are a spread of its pieces
pub parts_spread : {n number last : ℕ} {hs : List Happening} {ss : List Running} {parts : List (List Piece)}
    → AreParts n number last hs ss parts
    → IsSpread (deal_all n number last hs ss) parts
parts_spread {n} {number} {last} {hs} {ss} p = record {
  each = λ r h. elim (before_or_at {k = r} n (omega (arith, h, p.long))) [
    | inl below ↦ p.each r below ∙ reported_each number last hs ss p.some below
    | inr last_one ↦ cc (apart_is number last hs ss p.some)
  ];
  within = rw p.long (all_within number last hs ss p.some);
  ordered = all_ordered n number last hs ss p.ascends;
}

-- and all of them are the pieces of the whole table

session_pieces : (number q : ℕ) (os : List Out) → map (λ (d : Dealt). d.piece) (map (λ o. deal q (item_piece number o)) os)
    ≡ map (item_piece number) os
session_pieces number q [] = refl
session_pieces number q (o ∷ os) = cc (session_pieces number q os)

items_pieces : (n number : ℕ) (items : Running → List Out) (k : ℕ) (ss : List Running)
    → map (λ (d : Dealt). d.piece) (deal_items n number items k ss) ≡ map (item_piece number) (flat_map items ss)
items_pieces n number items k [] = refl
items_pieces n number items k (s ∷ ss) =
    cc (
      map-append (λ d. d.piece) (map (λ o. deal (k % n) (item_piece number o)) (items s)) (deal_items n number items (k + 1) ss),
      session_pieces number (k % n) (items s),
      items_pieces n number items (k + 1) ss,
      map-append (item_piece number) (items s) (flat_map items ss),
    )

event_pieces_are : (n number last : ℕ) (e : ShardEvent) (ss : List Running)
    → map (λ (d : Dealt). d.piece) (deal_event n number last e ss) ≡ event_pieces number e (outcome_of last e ss)
event_pieces_are n number last (Own k m event) ss = refl
event_pieces_are n number last (Tick t) ss = items_pieces n number (tick_items (max last t)) 0 ss ∙ sym (tick_gives number last t ss)

all_pieces : (n number last : ℕ) (hs : List Happening) (ss : List Running)
    → map (λ (d : Dealt). d.piece) (deal_all n number last hs ss) ≡ whole_pieces number last hs ss
all_pieces n number last [] ss = refl
all_pieces n number last (Apart o ∷ hs) ss = cc (all_pieces n (number + 1) last hs ss)
all_pieces n number last (Among e ∷ hs) ss =
    cc (
      map-append (λ d. d.piece) (deal_event n number last e ss) (deal_all n (number + 1) (later last e) hs (moved last e ss)),
      event_pieces_are n number last e ss,
      all_pieces n (number + 1) (later last e) hs (moved last e ss),
    )

pub parts_gathered : (n number last : ℕ) (hs : List Happening) (ss : List Running) (parts : List (List Piece))
    → AreParts n number last hs ss parts
    → AreGathered parts (whole_pieces number last hs ss)
parts_gathered n number last hs ss parts p = record {
  dealt = deal_all n number last hs ss;
  spread = parts_spread p;
  pieces_are = all_pieces n number last hs ss;
}

-- their text, and what they count

session_text : (number q : ℕ) (os : List Out) → dealt_text (map (λ o. deal q (item_piece number o)) os) ≡ flat_map (item_line number) os
session_text number q [] = refl
session_text number q (o ∷ os) = cc (session_text number q os)

text_append : (ds es : List Dealt) → dealt_text (ds ++ es) ≡ dealt_text ds ++ dealt_text es
text_append ds es = flat_map-append (λ d. d.piece.text) ds es

items_text : (n number : ℕ) (items : Running → List Out) (k : ℕ) (ss : List Running)
    → dealt_text (deal_items n number items k ss) ≡ flat_map (item_line number) (flat_map items ss)
items_text n number items k [] = refl
items_text n number items k (s ∷ ss) =
    cc (
      text_append (map (λ o. deal (k % n) (item_piece number o)) (items s)) (deal_items n number items (k + 1) ss),
      session_text number (k % n) (items s),
      items_text n number items (k + 1) ss,
      flat_map-append (item_line number) (items s) (flat_map items ss),
    )

event_text : (n number last : ℕ) (e : ShardEvent) (ss : List Running)
    → dealt_text (deal_event n number last e ss) ≡ event_lines number (outcome_of last e ss)
unfolding outcome_of
event_text n number last (Own k m event) ss = append-nil (event_lines number (outcome_of last (Own k m event) ss))
event_text n number last (Tick t) ss =
    items_text n number (tick_items (max last t)) 0 ss
    ∙ sym (append-nil (flat_map (item_line number) (flat_map (tick_items (max last t)) ss)))

pub all_text : (n number last : ℕ) (hs : List Happening) (ss : List Running)
    → dealt_text (deal_all n number last hs ss) ≡ lines_from number (happening_outcomes last hs ss)
all_text n number last [] ss = refl
all_text n number last (Apart o ∷ hs) ss = cc (all_text n (number + 1) last hs ss)
all_text n number last (Among e ∷ hs) ss =
    cc (
      text_append (deal_event n number last e ss) (deal_all n (number + 1) (later last e) hs (moved last e ss)),
      event_text n number last e ss,
      all_text n (number + 1) (later last e) hs (moved last e ss),
    )

session_txs : (number q : ℕ) (os : List Out) → txs_of (map (λ o. deal q (item_piece number o)) os) ≡ sum_by packets_sent_by os
session_txs number q [] = refl
session_txs number q (o ∷ os) =
    omega (
      arith,
      sum_by-cons (λ d. d.piece.txs) (deal q (item_piece number o)) (map (λ x. deal q (item_piece number x)) os),
      sum_by-cons packets_sent_by o os,
      session_txs number q os,
    )

items_txs : (n number : ℕ) (items : Running → List Out) (k : ℕ) (ss : List Running)
    → txs_of (deal_items n number items k ss) ≡ sum_by packets_sent_by (flat_map items ss)
items_txs n number items k [] = refl
items_txs n number items k (s ∷ ss) = omega (
  arith,
  sum_by-append (λ d. d.piece.txs) (map (λ o. deal (k % n) (item_piece number o)) (items s)) (deal_items n number items (k + 1) ss),
  session_txs number (k % n) (items s),
  items_txs n number items (k + 1) ss,
  sum_by-append packets_sent_by (items s) (flat_map items ss),
)

-- what dealt pieces report, added up, where each event's pieces report what its outcome does
all_sum : {n : ℕ} (f : Dealt → ℕ) {g : Outcome → ℕ} → ((number : ℕ) (o : Outcome) → f (deal n (whole_piece number o)) ≡ g o)
    → ((number last : ℕ) (e : ShardEvent) (ss : List Running) → sum_by f (deal_event n number last e ss) ≡ g (outcome_of last e ss))
    → (number last : ℕ) (hs : List Happening) (ss : List Running)
    → sum_by f (deal_all n number last hs ss) ≡ sum_by g (happening_outcomes last hs ss)
all_sum f one event number last [] ss = refl
all_sum {n} f {g} one event number last (Apart o ∷ hs) ss =
    omega (
      arith,
      sum_by-cons f (deal n (whole_piece number o)) (deal_all n (number + 1) last hs ss),
      sum_by-cons g o (happening_outcomes last hs ss),
      one number o,
      all_sum f one event (number + 1) last hs ss,
    )
all_sum {n} f {g} one event number last (Among e ∷ hs) ss = omega (
  arith,
  sum_by-append f (deal_event n number last e ss) (deal_all n (number + 1) (later last e) hs (moved last e ss)),
  event number last e ss,
  sum_by-cons g (outcome_of last e ss) (happening_outcomes (later last e) hs (moved last e ss)),
  all_sum f one event (number + 1) (later last e) hs (moved last e ss),
)

event_txs : (n number last : ℕ) (e : ShardEvent) (ss : List Running)
    → txs_of (deal_event n number last e ss) ≡ packets_sent (outcome_of last e ss)
unfolding outcome_of
event_txs n number last (Own k m event) ss = sum_by-cons (λ d. d.piece.txs)
    (deal (k % n) (whole_piece number (outcome_of last (Own k m event) ss))) []
    ∙ (let z : packets_sent (outcome_of last (Own k m event) ss) + 0 ≡ packets_sent (outcome_of last (Own k m event) ss) = omega arith in z)
event_txs n number last (Tick t) ss = items_txs n number (tick_items (max last t)) 0 ss

pub all_txs : (n number last : ℕ) (hs : List Happening) (ss : List Running)
    → txs_of (deal_all n number last hs ss) ≡ sum_by packets_sent (happening_outcomes last hs ss)
all_txs n number last hs ss = all_sum _ (λ _ o. refl) (event_txs n) number last hs ss

session_drops : (number q : ℕ) (os : List Out) → drops_of (map (λ o. deal q (item_piece number o)) os) ≡ 0
session_drops number q [] = refl
session_drops number q (o ∷ os) =
    omega (
      arith,
      sum_by-cons (λ d. d.piece.drops) (deal q (item_piece number o)) (map (λ x. deal q (item_piece number x)) os),
      session_drops number q os,
    )

items_drops : (n number : ℕ) (items : Running → List Out) (k : ℕ) (ss : List Running) → drops_of (deal_items n number items k ss) ≡ 0
items_drops n number items k [] = refl
items_drops n number items k (s ∷ ss) = omega (
  arith,
  sum_by-append (λ d. d.piece.drops) (map (λ o. deal (k % n) (item_piece number o)) (items s)) (deal_items n number items (k + 1) ss),
  session_drops number (k % n) (items s),
  items_drops n number items (k + 1) ss,
)

event_drops : (n number last : ℕ) (e : ShardEvent) (ss : List Running)
    → drops_of (deal_event n number last e ss) ≡ dropped (outcome_of last e ss)
unfolding outcome_of
event_drops n number last (Own k m event) ss = sum_by-cons (λ d. d.piece.drops)
    (deal (k % n) (whole_piece number (outcome_of last (Own k m event) ss))) []
    ∙ (let z : dropped (outcome_of last (Own k m event) ss) + 0 ≡ dropped (outcome_of last (Own k m event) ss) = omega arith in z)
event_drops n number last (Tick t) ss = items_drops n number (tick_items (max last t)) 0 ss

pub all_drops : (n number last : ℕ) (hs : List Happening) (ss : List Running)
    → drops_of (deal_all n number last hs ss) ≡ sum_by dropped (happening_outcomes last hs ss)
all_drops n number last hs ss = all_sum _ (λ _ o. refl) (event_drops n) number last hs ss

one_each : (last : ℕ) (hs : List Happening) (ss : List Running) → length (happening_outcomes last hs ss) ≡ length hs
one_each last [] ss = refl
one_each last (Apart o ∷ hs) ss = ap suc (one_each last hs ss)
one_each last (Among e ∷ hs) ss = ap suc (one_each (later last e) hs (moved last e ss))

-- the lines, and the last line behind them, are the report
pub whole_report : (n last : ℕ) (hs : List Happening) (ss : List Running) (text : List ℕ) {more : List ℕ}
    (done : List ℕ) {events txs drops : ℕ} → length hs ≡ events
    → text ≡ dealt_text (deal_all n 1 last hs ss) → txs ≡ txs_of (deal_all n 1 last hs ss) → drops ≡ drops_of (deal_all n 1 last hs ss)
    → done ≡ done_line events txs drops → more ≡ text ++ done → more ≡ report (happening_outcomes last hs ss)
whole_report n last hs ss text done count reported sends fell is added =
    cc (all_text n 1 last hs ss, one_each last hs ss, all_txs n 1 last hs ss, all_drops n 1 last hs ss)

pub whole_counts : (n last : ℕ) (hs : List Happening) (ss : List Running) {events txs drops : ℕ} → length hs ≡ events
    → txs ≡ txs_of (deal_all n 1 last hs ss) → drops ≡ drops_of (deal_all n 1 last hs ss)
    → (let c : Counts = record { events = events; txs = txs; drops = drops } in c) ≡ counts_of (happening_outcomes last hs ss)
whole_counts n last hs ss {events} {txs} {drops} count sends fell =
    let e : events ≡ length (happening_outcomes last hs ss) = cc (one_each last hs ss) in
    let t : txs ≡ sum_by packets_sent (happening_outcomes last hs ss) = cc (all_txs n 1 last hs ss) in
    let d : drops ≡ sum_by dropped (happening_outcomes last hs ss) = cc (all_drops n 1 last hs ss) in
    rw (e, t, d) refl
