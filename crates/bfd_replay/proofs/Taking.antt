-- The least first piece of the parts is the first of what is left.
use Rattle.std.proofs.Math.ListN.{get_or-map}
use Rattle.bfd_replay.proofs.ReportCommon.{◌≡◌, ◌≢◌, ◌⊎◌, inl, inr, ◌<◌, ◌+◌, ◌==◌, ◌++◌, ℕ, Bool, true, false, List, [], ◌∷◌, length, drop}
use Rattle.bfd_replay.proofs.ReportCommon.{map, get_or, set, get_or-set_same, get_or-set_other, get_or_default, length-map, length-set}
use Rattle.bfd_replay.proofs.ReportCommon.{refl, ap, ◌∙◌, append_assoc, append-nil, arith, Option, None, Some, AllByRecursion, eq-eqb}
use Rattle.bfd_replay.proofs.ReportCommon.{sum_by-cons, Key, Piece, Dealt, pieces_in, IsSpread, dealt_text, IsLeast, first_key, head_key}
use Rattle.bfd_replay.proofs.ReportCommon.{keys, sym, first_text, first_txs, first_drops, sum_by, nat_tests}

-- how many packets dealt pieces report as sent and as dropped
abbrev pub txs_of : List Dealt → ℕ
txs_of ds = sum_by (λ d. d.piece.txs) ds

abbrev pub drops_of : List Dealt → ℕ
drops_of ds = sum_by (λ d. d.piece.drops) ds

-- what is left of the pieces, and what was taken of them
pub record Going (all : List Dealt) (parts : List (List Piece)) (before text : List ℕ) (txs drops : ℕ) : Type 0 where
  pub left : List Dealt
  pub spread : IsSpread left parts
  pub reported : text ++ dealt_text left ≡ before ++ dealt_text all
  pub sent : txs + txs_of left ≡ txs_of all
  pub dropped : drops + drops_of left ≡ drops_of all

pub same_or_not : (a b : ℕ) → (a ≡ b) ⊎ (a ≢ b)
same_or_not a b = grind arith

not_same : {a b : ℕ} → a ≢ b → (a == b) ≡ false
not_same e = grind (arith, nat_tests)

-- a part has the first piece that is dealt to it, and passes over another's
pub here : (d : Dealt) (ds : List Dealt) (s : ℕ) → d.part ≡ s → pieces_in s (d ∷ ds) ≡ d.piece ∷ pieces_in s ds
here d ds s e = rw (eq-eqb d.part s e) refl

pub away : (d : Dealt) (ds : List Dealt) (s : ℕ) → d.part ≢ s → pieces_in s (d ∷ ds) ≡ pieces_in s ds
away d ds s e = rw (not_same e) refl

-- the first piece of a part is one of those that were dealt to it
pub record Found (s : ℕ) (P : Dealt → Type 0) (key : Key) : Type 0 where
  pub dealt : Dealt
  pub is : dealt.piece.key ≡ key
  pub its : dealt.part ≡ s
  pub holds : P dealt

found_by : {s : ℕ} (P : Dealt → Type 0) {d : Dealt} (ds : List Dealt) {key : Key} → (d.part ≡ s) ⊎ (d.part ≢ s)
    → (first_key (pieces_in s ds) ≡ Some key → AllByRecursion P ds → Found s P key)
    → first_key (pieces_in s (d ∷ ds)) ≡ Some key → AllByRecursion P (d ∷ ds) → Found s P key
found_by {s} P {d} ds {key} (inl e) rest f h =
    let one : Some d.piece.key ≡ Some key = cc (here d ds s e) in
    record { dealt = d; is = cc; its = e; holds = h.0 }
found_by {s} P {d} ds (inr e) rest f h = rest (cc (away d ds s e)) h.1

pub found : (s : ℕ) (P : Dealt → Type 0) (ds : List Dealt) (key : Key) → first_key (pieces_in s ds) ≡ Some key → AllByRecursion P ds
    → Found s P key
found s P [] key f h = absurd (cc)
found s P (d ∷ ds) key f h = found_by P ds (same_or_not d.part s) (found s P ds key) f h

-- a head is the key of its part's first piece
pub head_of : (parts : List (List Piece)) (s : ℕ) → get_or (map first_key parts) s None ≡ first_key (get_or parts s [])
head_of parts s = get_or-map first_key parts s []

pub inside_of : (parts : List (List Piece)) {s : ℕ} → s < length (map first_key parts) → s < length parts
inside_of parts h = omega (arith, h, length-map parts first_key)

pub within_heads : (parts : List (List Piece)) {s : ℕ} → s < length parts → s < length (map first_key parts)
within_heads parts h = omega (arith, h, length-map parts first_key)

-- the least part is that of the first piece
pub not_both : {b : Bool} → b ≡ true → b ≡ false → ⊥
not_both h k = cc

other_part : {d : Dealt} {ds : List Dealt} {parts : List (List Piece)} {s : ℕ} → IsSpread (d ∷ ds) parts
    → (l : IsLeast (map first_key parts) s) → d.part ≢ s → ⊥
other_part {d} {ds} {parts} {s} h l apart =
    let there = found s _ ds l.key (cc (l.there, head_of parts s, h.each s (inside_of _ l.inside), away d ds s apart)) h.ordered.0 in
    elim there.holds [
      | inl same ↦ apart (cc)
      | inr before ↦ not_both (cc) (l.least d.part d.piece.key (within_heads _ h.within.0)
          (cc (head_of parts d.part, h.each d.part h.within.0, here d ds d.part refl)))
    ]

its : (d : Dealt) (ds : List Dealt) (parts : List (List Piece)) (s : ℕ) → IsSpread (d ∷ ds) parts → IsLeast (map first_key parts) s
    → d.part ≡ s
its d ds parts s h l = elim (same_or_not d.part s) [ inl same ↦ same | inr apart ↦ absurd (other_part h l apart) ]

-- one piece is taken off its part
within_set : (ds : List Dealt) {n m : ℕ} → m ≡ n → AllByRecursion (λ d. d.part < n) ds → AllByRecursion (λ d. d.part < m) ds
within_set ds e h = rw e h

pub takes : (d : Dealt) (ds : List Dealt) (parts : List (List Piece)) (s : ℕ) → IsSpread (d ∷ ds) parts → d.part ≡ s → s < length parts
    → IsSpread ds (set parts s (drop 1 (get_or parts s [])))
takes d ds parts s h e inside = record {
  each = λ r k.
      elim (same_or_not r s) [
        | inl same ↦
            cc (get_or-set_same parts s (drop 1 (get_or parts s [])) [] inside, h.each s inside, here d ds s e)
        | inr other ↦
            get_or-set_other parts s r (drop 1 (get_or parts s [])) [] other
            ∙ (h.each r (omega (arith, k, length-set parts s (drop 1 (get_or parts s [])))) ∙ away d ds r (λ z. other (cc)))
      ];
  within = within_set ds (length-set parts s (drop 1 (get_or parts s []))) h.within.1;
  ordered = h.ordered.1;
}

go_by : {all : List Dealt} {parts : List (List Piece)} {before : List ℕ} (text : List ℕ) (txs drops : ℕ) {s : ℕ} (left : List Dealt)
    → IsLeast (map first_key parts) s → IsSpread left parts → text ++ dealt_text left ≡ before ++ dealt_text all
    → txs + txs_of left ≡ txs_of all → drops + drops_of left ≡ drops_of all
    → Going all (set parts s (drop 1 (get_or parts s []))) before (text ++ first_text (get_or parts s []))
    (txs + first_txs (get_or parts s [])) (drops + first_drops (get_or parts s []))
go_by {parts} text txs drops {s} [] l h reported sent dropped =
    absurd (let none = ap first_key (h.each s (inside_of _ l.inside)) in cc (l.there, head_of parts s))
go_by {parts} text txs drops {s} (d ∷ ds) l h reported sent dropped =
    let mine = its d ds _ s h l in
    let is = h.each s (inside_of _ l.inside) ∙ here d ds s mine in
    record {
      left = ds;
      spread = takes d ds _ s h mine (inside_of _ l.inside);
      reported = cc (append_assoc text d.piece.text (dealt_text ds));
      sent = (let more = sum_by-cons (λ x. x.piece.txs) d ds in omega (arith, ap first_txs is, more, sent));
      dropped = (let more = sum_by-cons (λ x. x.piece.drops) d ds in omega (arith, ap first_drops is, more, dropped));
    }

-- one more piece is taken
pub go : {all : List Dealt} {parts parts2 : List (List Piece)} {heads : List (Option Key)} {part : List Piece} {before text text2 : List
    ℕ} {txs drops : ℕ} (count fell : ℕ) {s : ℕ}
    → heads ≡ map first_key parts → IsLeast heads s → part ≡ get_or parts s part → parts2 ≡ set parts s (drop 1 part)
    → text2 ≡ text ++ first_text part
    → count ≡ first_txs part → fell ≡ first_drops part
    → Going all parts before text txs drops → Going all parts2 before text2 (txs + count) (drops + fell)
go {parts} {part} {text} count fell {s} firsts least is e f n m g =
    let l : IsLeast (map first_key parts) s = rw (← firsts) least in
    rw (e, f, n, m, is ∙ get_or_default parts s part [] (inside_of _ l.inside)) (go_by text _ _ _ l g.spread g.reported g.sent g.dropped)

-- where no part has a piece, none is left
nothing : (left : List Dealt) {parts : List (List Piece)} → IsSpread left parts
    → ((s : ℕ) → s < length parts → first_key (get_or parts s []) ≡ None) → left ≡ []
nothing [] h none = refl
nothing (d ∷ ds) {parts} h none =
    absurd (let some : first_key (get_or parts d.part []) ≡ Some d.piece.key = cc (h.each d.part h.within.0, here d ds d.part refl) in
    cc (none d.part h.within.0))

pub gone : {all : List Dealt} {parts : List (List Piece)} (heads : List (Option ℕ)) {before text : List ℕ} {txs drops : ℕ}
    → keys heads ≡ map first_key parts
    → ((s : ℕ) → s < length heads → get_or heads s None ≡ None)
    → Going all parts before text txs drops → (text ≡ before ++ dealt_text all) × (txs ≡ txs_of all) × (drops ≡ drops_of all)
gone {parts} heads {text} firsts none g =
    let empty = nothing _ g.spread (λ s inside. cc (
      head_of parts s,
      firsts,
      get_or-map head_key heads s None,
      none s (rw (sym (length-map heads head_key)) (rw firsts (within_heads parts inside))),
    )) in (
      cc (append-nil text),
      omega (arith, g.sent, ap txs_of empty),
      omega (arith, g.dropped, ap drops_of empty),
    )
