-- A part's marks and text, as pieces are reported and taken.
use Rattle.bfd_replay.proofs.ReportCommon.{◌≡◌, ◌≤◌, ◌+◌, ◌++◌, ℕ, List, [], ◌∷◌, length, drop, map, Result, Ok, Err, OnOk, OnErr, refl, ap}
use Rattle.bfd_replay.proofs.ReportCommon.{◌∙◌, append-nil, arith, length-append, length-drop, AllByRecursion, take-append-le}
use Rattle.bfd_replay.proofs.ReportCommon.{drop-append-le, sum_by-append, sum_by-cons, Out, Outcome, Mark, Piece, texts, whole_piece}
use Rattle.bfd_replay.proofs.ReportCommon.{item_piece, pieces_at, mark_of, IsPart, sum_by, each_more, item_some}
use Rattle.std.proofs.Math.Seq.{take-append_seam, drop-append_seam}
use Rattle.bfd_replay.proofs.Sizes.{event_some}

-- each packet that the piece counts has a byte of text
abbrev pub HasText : Piece → Type 0
HasText p = p.txs + p.drops ≤ length p.text

-- the text of all these marks
abbrev pub long_of : List Mark → ℕ
long_of ms = sum_by (λ m. m.long) ms

-- pieces that are marked are pieces again
pieces_back : (ps : List Piece) → pieces_at (map mark_of ps) (texts ps) ≡ ps
pieces_back [] = refl
pieces_back (p ∷ ps) =
    ap (λ t. record { key = p.key; text = t; txs = p.txs; drops = p.drops } ∷ pieces_at (map mark_of ps)
    (drop (length p.text) (texts (p ∷ ps)))) (take-append_seam p.text (texts ps))
    ∙ (ap (λ t. p ∷ pieces_at (map mark_of ps) t) (drop-append_seam p.text (texts ps)) ∙ ap (λ qs. p ∷ qs) (pieces_back ps))

-- marks that have all the text, and others behind them
pub pieces_append : (ms ns : List Mark) (t u : List ℕ) → long_of ms ≡ length t
    → pieces_at (ms ++ ns) (t ++ u) ≡ pieces_at ms t ++ pieces_at ns u
pieces_append [] ns [] u h = refl
pieces_append [] ns (x ∷ t) u h = absurd (omega (arith, h))
pieces_append (m ∷ ms) ns t u h =
    let s = sum_by-cons (λ n. n.long) m ms in
    let fits : m.long ≤ length t = omega (arith, h, s) in
    cc (
      take-append-le m.long t u fits,
      drop-append-le m.long t u fits,
      pieces_append ms ns (drop m.long t) u (omega (arith, h, s, length-drop m.long t)),
    )

-- marks have all of their pieces' text
long_marks : (ps : List Piece) → long_of (map mark_of ps) ≡ length (texts ps)
long_marks [] = refl
long_marks (p ∷ ps) = omega (arith, long_marks ps, sum_by-cons (λ n. n.long) (mark_of p) (map mark_of ps), length-append p.text (texts ps))

all_append : (ms : List Mark) (ps : List Piece) → AllByRecursion (λ m. m.txs + m.drops ≤ m.long) ms → AllByRecursion HasText ps
    → AllByRecursion (λ m. m.txs + m.drops ≤ m.long) (ms ++ map mark_of ps)
all_append [] [] h k = tt
all_append [] (p ∷ ps) h k = (k.0, all_append [] ps tt k.1)
all_append (m ∷ ms) ps h k = (h.0, all_append ms ps h.1 k)

-- a part to which these pieces more were reported
part_more : (ms ms2 : List Mark) (t t2 : List ℕ) (ps : List Piece) → IsPart ms t → ms2 ≡ ms ++ map mark_of ps → t2 ≡ t ++ texts ps
    → AllByRecursion HasText ps → IsPart ms2 t2
part_more ms ms2 t t2 ps s m e k =
    rw m (rw e (record {
      whole = omega (arith, s.whole, length-append t (texts ps), long_marks ps, sum_by-append (λ n. n.long) ms (map mark_of ps));
      counts = all_append ms ps s.counts k;
    }))

-- and what it reports then
reported_more : (ms ms2 : List Mark) (t t2 : List ℕ) (ps : List Piece) → IsPart ms t → ms2 ≡ ms ++ map mark_of ps → t2 ≡ t ++ texts ps
    → pieces_at ms2 t2 ≡ pieces_at ms t ++ ps
reported_more ms ms2 t t2 ps s m e = cc (pieces_append ms (map mark_of ps) t (texts ps) s.whole, pieces_back ps)

-- a part to which all of another was appended
part_both : (ms ms2 ns : List Mark) (t t2 u : List ℕ) → IsPart ms t → IsPart ns u → ms2 ≡ ms ++ ns → t2 ≡ t ++ u → IsPart ms2 t2
part_both ms ms2 ns t t2 u s l m e =
    rw m (rw e (record {
      whole = omega (arith, s.whole, l.whole, length-append t u, sum_by-append (λ n. n.long) ms ns);
      counts = each_more (λ n. n.txs + n.drops ≤ n.long) ms ns s.counts l.counts;
    }))

reported_both : (ms ms2 ns : List Mark) (t t2 u : List ℕ) → IsPart ms t → ms2 ≡ ms ++ ns → t2 ≡ t ++ u
    → pieces_at ms2 t2 ≡ pieces_at ms t ++ pieces_at ns u
reported_both ms ms2 ns t t2 u s m e = cc (pieces_append ms ns t u s.whole)

-- the pieces of a tick and of an event have text
pub items_have : (n : ℕ) (os : List Out) → AllByRecursion HasText (map (item_piece n) os)
items_have n [] = tt
items_have n (o ∷ os) = (omega (arith, item_some n o), items_have n os)

pub whole_has : (n : ℕ) (o : Outcome) → HasText (whole_piece n o)
whole_has n o = event_some n o

-- more pieces were reported, or none
module _ {T E : Type 0} where
  pub part_by : (r : Result T E) (ms ms2 : List Mark) (t t2 : List ℕ) (ps : List Piece) → IsPart ms t
      → OnOk r (ms2 ≡ ms ++ map mark_of ps) → OnOk r (t2 ≡ t ++ texts ps) → OnErr r (ms2 ≡ ms) → OnErr r (t2 ≡ t)
      → AllByRecursion HasText ps → IsPart ms2 t2
  part_by (Ok x) ms ms2 t t2 ps s m e n f k = part_more ms ms2 t t2 ps s m e k
  part_by (Err x) ms ms2 t t2 ps s m e n f k = rw n (rw f s)

  pub reported_by : (r : Result T E) (ms ms2 : List Mark) (t t2 : List ℕ) (ps before : List Piece) → IsPart ms t → pieces_at ms t ≡ before
      → OnOk r (ms2 ≡ ms ++ map mark_of ps) → OnOk r (t2 ≡ t ++ texts ps) → OnOk r (pieces_at ms2 t2 ≡ before ++ ps)
  reported_by (Ok x) ms ms2 t t2 ps before s v m e = cc (reported_more ms ms2 t t2 ps s m e)
  reported_by (Err x) ms ms2 t t2 ps before s v m e = tt

  -- all of another part was reported, or nothing
  pub both_by : (r : Result T E) (ms ms2 ns : List Mark) (t t2 u : List ℕ) → IsPart ms t → IsPart ns u
      → OnOk r (ms2 ≡ ms ++ ns) → OnOk r (t2 ≡ t ++ u) → OnErr r (ms2 ≡ ms) → OnErr r (t2 ≡ t) → IsPart ms2 t2
  both_by (Ok x) ms ms2 ns t t2 u s l m e n f = part_both ms ms2 ns t t2 u s l m e
  both_by (Err x) ms ms2 ns t t2 u s l m e n f = rw n (rw f s)

  pub both_reported : (r : Result T E) (ms ms2 ns : List Mark) (t t2 u : List ℕ) (before more : List Piece) → IsPart ms t
      → pieces_at ms t ≡ before → pieces_at ns u ≡ more
      → OnOk r (ms2 ≡ ms ++ ns) → OnOk r (t2 ≡ t ++ u) → OnOk r (pieces_at ms2 t2 ≡ before ++ more)
  both_reported (Ok x) ms ms2 ns t t2 u before more s v w m e = cc (reported_both ms ms2 ns t t2 u s m e)
  both_reported (Err x) ms ms2 ns t t2 u before more s v w m e = tt

  -- one piece's text is the text of it alone
  pub single : (r : Result T E) (t t2 : List ℕ) (p : Piece) → OnOk r (t2 ≡ t ++ p.text) → OnOk r (t2 ≡ t ++ texts (p ∷ []))
  single (Ok x) t t2 p e = cc (append-nil p.text)
  single (Err x) t t2 p e = tt
