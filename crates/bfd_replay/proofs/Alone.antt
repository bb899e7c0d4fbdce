-- A part that has all pieces.
use Rattle.bfd_replay.proofs.ReportCommon.{◌≡◌, ◌≢◌, ◌⊎◌, inl, inr, ◌<◌, ◌++◌, ℕ, List, [], ◌∷◌, length, take, drop, map, get_or, refl, ap}
use Rattle.bfd_replay.proofs.ReportCommon.{◌∙◌, arith, length-drop, take-append-drop, Option, None, Some, IfSome, subst, AllByRecursion}
use Rattle.bfd_replay.proofs.ReportCommon.{get_or_default, sum_by-cons, Key, Mark, Piece, texts, Dealt, pieces_in, IsSpread, dealt_text}
use Rattle.bfd_replay.proofs.ReportCommon.{HasAll, first_key, mark_key, pieces_at, sum_by}
use Rattle.bfd_replay.specs.Spread.{Gathers}
use Rattle.bfd_replay.proofs.Marks.{long_of}
use Rattle.bfd_replay.proofs.Taking.{head_of, inside_of, within_heads, here, away, same_or_not, txs_of, drops_of}

-- all dealt pieces are of the part s, where no other has a piece
others_less : {s n : ℕ} (d : Dealt) (ds : List Dealt) → d.part ≡ s → ((r : ℕ) → r < n → r ≢ s → first_key (pieces_in r (d ∷ ds)) ≡ None)
    → (r : ℕ) → r < n → r ≢ s → first_key (pieces_in r ds) ≡ None
others_less d ds same none r k other = cc (away d ds r (λ z. other (cc)), none r k other)

mine : {s n : ℕ} (d : Dealt) (ds : List Dealt) → d.part < n → ((r : ℕ) → r < n → r ≢ s → first_key (pieces_in r (d ∷ ds)) ≡ None)
    → (d.part ≡ s) ⊎ (d.part ≢ s) → d.part ≡ s
mine d ds k none (inl same) = same
mine d ds k none (inr other) =
    absurd (let some = ap first_key (here d ds d.part refl) in cc (none d.part k other))

only : (s : ℕ) {n : ℕ} (ds : List Dealt) → AllByRecursion (λ d. d.part < n) ds
    → ((r : ℕ) → r < n → r ≢ s → first_key (pieces_in r ds) ≡ None) → pieces_in s ds ≡ map (λ d. d.piece) ds
only s [] within none = refl
only s (d ∷ ds) within none =
    let same = mine d ds within.0 none (same_or_not d.part s) in
    cc (here d ds s same, only s ds within.1 (others_less d ds same none))

alone : {dealt : List Dealt} {parts : List (List Piece)} {s : ℕ} → IsSpread dealt parts → HasAll (map first_key parts) s
    → get_or parts s [] ≡ map (λ d. d.piece) dealt
alone {dealt} {parts} {s} h a = h.each s (inside_of _ a.inside)
    ∙ only s _ h.within (λ r k other. cc (h.each r k, head_of parts r, a.others r (within_heads _ k) other))

pub whole : {dealt : List Dealt} {parts : List (List Piece)} {heads : List (Option Key)} {s : ℕ} {part : List Piece} → IsSpread dealt parts
    → heads ≡ map first_key parts → HasAll heads s → part ≡ get_or parts s part → part ≡ map (λ d. d.piece) dealt
whole {parts} {s} {part} h firsts all e =
    let a : HasAll (map first_key parts) s = rw (← firsts) all in
    cc (get_or_default parts s part [] (inside_of _ a.inside), alone h a)

-- their text and their packets
pub texts_dealt : (ds : List Dealt) → texts (map (λ d. d.piece) ds) ≡ dealt_text ds
texts_dealt [] = refl
texts_dealt (d ∷ ds) = cc (texts_dealt ds)

pub txs_dealt : (ds : List Dealt) → sum_by (λ (p : Piece). p.txs) (map (λ d. d.piece) ds) ≡ txs_of ds
txs_dealt [] = refl
txs_dealt (d ∷ ds) = omega (
  arith,
  txs_dealt ds,
  sum_by-cons (λ p. p.txs) d.piece (map (λ d. d.piece) ds),
  sum_by-cons (λ x. x.piece.txs) d ds,
)

pub drops_dealt : (ds : List Dealt) → sum_by (λ (p : Piece). p.drops) (map (λ d. d.piece) ds) ≡ drops_of ds
drops_dealt [] = refl
drops_dealt (d ∷ ds) = omega (
  arith,
  drops_dealt ds,
  sum_by-cons (λ p. p.drops) d.piece (map (λ d. d.piece) ds),
  sum_by-cons (λ x. x.piece.drops) d ds,
)

-- so the part gives what all parts give
module _ {dealt : List Dealt} {parts : List (List Piece)} {s : ℕ} {part : List Piece} (h : IsSpread dealt parts)
    (all : HasAll (map first_key parts) s) (is : part ≡ get_or parts s part) where
  pub sole_texts : texts part ≡ dealt_text dealt
  sole_texts = ap texts (whole h refl all is) ∙ texts_dealt dealt

  pub sole_txs : sum_by (λ (p : Piece). p.txs) part ≡ txs_of dealt
  sole_txs = ap (sum_by (λ (p : Piece). p.txs)) (whole h refl all is) ∙ txs_dealt dealt

  pub sole_drops : sum_by (λ (p : Piece). p.drops) part ≡ drops_of dealt
  sole_drops = ap (sum_by (λ (p : Piece). p.drops)) (whole h refl all is) ∙ drops_dealt dealt

pub sole_gathers : {parts : List (List Piece)} {s : ℕ} {part : List Piece} {none text : List ℕ} {sent fell : ℕ}
    → HasAll (map first_key parts) s → part ≡ get_or parts s part
    → none ≡ [] → text ≡ none ++ texts part → sent ≡ sum_by (λ p. p.txs) part → fell ≡ sum_by (λ p. p.drops) part
    → Gathers parts text sent fell
sole_gathers all is nothing reported sent fell = λ dealt h. (cc (sole_texts h all is), sent ∙ sole_txs h all is, fell ∙ sole_drops h all is)

-- where one part has all of them
pub is_all : (parts : List (List Piece)) {one : Option ℕ} {s : ℕ} → one ≡ Some s → IfSome one (λ r. HasAll (map first_key parts) r)
    → HasAll (map first_key parts) s
is_all parts is all = subst (λ o. IfSome o (λ r. HasAll (map first_key parts) r)) is all

-- the text and the packets of all marks
pub texts_at : (ms : List Mark) (t : List ℕ) → long_of ms ≡ length t → texts (pieces_at ms t) ≡ t
texts_at [] [] h = refl
texts_at [] (x ∷ t) h = absurd (omega (arith, h))
texts_at (m ∷ ms) t h =
    let left : long_of ms ≡ length (drop m.long t) = omega (arith, h, sum_by-cons (λ n. n.long) m ms, length-drop m.long t) in
    cc (texts_at ms _ left, take-append-drop m.long t)

pub txs_at : (ms : List Mark) (t : List ℕ) → sum_by (λ (p : Piece). p.txs) (pieces_at ms t) ≡ sum_by (λ (m : Mark). m.txs) ms
txs_at [] t = refl
txs_at (m ∷ ms) t = omega (
  arith,
  txs_at ms (drop m.long t),
  sum_by-cons (λ n. n.txs) m ms,
  sum_by-cons (λ p. p.txs) (record { key = mark_key m; text = take m.long t; txs = m.txs; drops = m.drops }) (pieces_at ms (drop m.long t)),
)

pub drops_at : (ms : List Mark) (t : List ℕ) → sum_by (λ (p : Piece). p.drops) (pieces_at ms t) ≡ sum_by (λ (m : Mark). m.drops) ms
drops_at [] t = refl
drops_at (m ∷ ms) t = omega (
  arith,
  drops_at ms (drop m.long t),
  sum_by-cons (λ n. n.drops) m ms,
  sum_by-cons (λ p. p.drops) (record { key = mark_key m; text = take m.long t; txs = m.txs; drops = m.drops })
      (pieces_at ms (drop m.long t)),
)
