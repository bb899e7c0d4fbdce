-- The pieces of a report, where its parts are cut in two.
use Rattle.bfd_replay.proofs.ReportCommon.{◌≡◌, ◌≢◌, inl, inr, ◌<◌, ◌≤◌, ◌+◌, ◌++◌, ℕ, true, false, List, [], ◌∷◌, Result, Ok, IfOk}
use Rattle.bfd_replay.proofs.ReportCommon.{append_assoc, append-nil, length, take, drop, drop-cons, suc, get_or, set, get_or-set_same}
use Rattle.bfd_replay.proofs.ReportCommon.{get_or-set_other, length-set, length-append, length-drop, take-append-drop, refl, ap, sym, subst}
use Rattle.bfd_replay.proofs.ReportCommon.{◌∙◌, arith, Some, AllByRecursion, flat_map, flat_map-append, sum_by-append, Key, Mark, Piece}
use Rattle.bfd_replay.proofs.ReportCommon.{Dealt, IsPart, mark_key, pieces_at, IsBefore, pieces_in, precedes, IsSpread, dealt_text}
use Rattle.bfd_replay.proofs.ReportCommon.{first_key, rank_key, nat_tests}
use Rattle.bfd_replay.specs.Cutting.{AreHalved, IsHalved}
use Rattle.bfd_replay.specs.Spread.{Gathers}
use Rattle.bfd_replay.proofs.Marks.{long_of, pieces_append}
use Rattle.bfd_replay.proofs.Scan.{not_less, rank_order}
use Rattle.bfd_replay.proofs.Taking.{away, drops_of, found, here, not_both, same_or_not, takes, txs_of}

-- the dealt pieces of the fronts come before those of the backs
pub record Halves (dealt : List Dealt) (fronts backs : List (List Piece)) : Type 0 where
  pub first : List Dealt
  pub second : List Dealt
  pub in_fronts : IsSpread first fronts
  pub in_backs : IsSpread second backs
  pub all : dealt ≡ first ++ second

-- of marks that have all of a text a prefix is cut off
low_pieces : (rank : ℕ) (ms : List Mark) (t : List ℕ) → AllByRecursion (λ m. precedes (mark_key m) (rank_key rank) ≡ true) ms
    → AllByRecursion (λ p. precedes p.key (rank_key rank) ≡ true) (pieces_at ms t)
low_pieces rank [] t h = tt
low_pieces rank (m ∷ ms) t h = (h.0, low_pieces rank ms (drop m.long t) h.1)

high_first : (rank : ℕ) (ms : List Mark) (t : List ℕ)
    → ((m : Mark) (rest : List Mark) → ms ≡ m ∷ rest → precedes (mark_key m) (rank_key rank) ≡ false)
    → (k : Key) → first_key (pieces_at ms t) ≡ Some k → precedes k (rank_key rank) ≡ false
high_first rank [] t stop k e = absurd (cc)
high_first rank (m ∷ ms) t stop k e = cc (stop m ms refl)

whole_is : (count long : ℕ) (ms : List Mark) (t : List ℕ) → IsPart ms t → long ≡ long_of (take count ms)
    → pieces_at ms t ≡ pieces_at (take count ms) (take long t) ++ pieces_at (drop count ms) (drop long t)
whole_is count long ms t p e =
    let fits : long ≤ length t = omega (
      arith,
      p.whole,
      e,
      sum_by-append (λ n. n.long) (take count ms) (drop count ms),
      ap long_of (take-append-drop count ms),
    ) in
    let has : long_of (take count ms) ≡ length (take long t) =
    omega (arith, e, fits, length-append (take long t) (drop long t), ap length (take-append-drop long t), length-drop long t) in
    cc (pieces_append (take count ms) (drop count ms) (take long t) (drop long t) has, take-append-drop count ms, take-append-drop long t)

pub cut_is : {rank : ℕ} (count long : ℕ) (ms : List Mark) (t : List ℕ) {ps : List Piece} {front back : List Mark} {own rest : List ℕ}
    → IsPart ms t → pieces_at ms t ≡ ps
    → long ≡ long_of (take count ms) → AllByRecursion (λ m. precedes (mark_key m) (rank_key rank) ≡ true) (take count ms)
    → ((m : Mark) (more : List Mark) → drop count ms ≡ m ∷ more → precedes (mark_key m) (rank_key rank) ≡ false)
    → front ≡ take count ms → back ≡ drop count ms → own ≡ take long t → rest ≡ drop long t
    → IsHalved rank ps (pieces_at front own) (pieces_at back rest)
cut_is {rank} count long ms t p v e low stop a b c d = rw (← v, a, b, c, d) (record {
  whole = whole_is count long ms t p e;
  below = low_pieces rank (take count ms) (take long t) low;
  above = high_first rank (drop count ms) (drop long t) stop;
})

-- the cut is before the first mark of this rank or above, or behind all marks
pub stops_at : {rank here : ℕ} (ms : List Mark) (count : ℕ) (x : Mark) → count < length ms → rank ≤ here
    → rank_key here ≡ mark_key (get_or ms count x)
    → (m : Mark) (more : List Mark) → drop count ms ≡ m ∷ more → precedes (mark_key m) (rank_key rank) ≡ false
stops_at {rank} {here} ms count x inside high is m more e =
    let first : get_or ms count x ∷ drop (suc count) ms ≡ m ∷ more = sym (drop-cons ms count x inside) ∙ e in
    let same : get_or ms count x ≡ m = cc (first) in
    cc (same, is, rank_order here rank, not_less high)

pub stops_behind : (rank : ℕ) (ms : List Mark) (count : ℕ) → length ms ≤ count → (m : Mark) (more : List Mark) → drop count ms ≡ m ∷ more
    → precedes (mark_key m) (rank_key rank) ≡ false
stops_behind rank ms count over m more e = absurd (omega (arith, over, ap length e, length-drop count ms))

-- no piece is dealt out to parts that have none
nothing_dealt : (parts : List (List Piece)) → ((s : ℕ) → s < length parts → get_or parts s [] ≡ []) → IsSpread [] parts
nothing_dealt parts none = record { each = λ s k. none s k; within = tt; ordered = tt }

both_empty : (front back : List Piece) → front ++ back ≡ [] → (front ≡ []) × (back ≡ [])
both_empty [] back e = (refl, e)
both_empty (p ∷ front) back e = absurd (cc)

inside_fronts : {rank : ℕ} {parts fronts backs : List (List Piece)} → AreHalved rank parts fronts backs → {s : ℕ} → s < length fronts
    → s < length parts
inside_fronts a h = omega (arith, h, a.fronts_long)

inside_backs : {rank : ℕ} {parts fronts backs : List (List Piece)} → AreHalved rank parts fronts backs → {s : ℕ} → s < length backs
    → s < length parts
inside_backs a h = omega (arith, h, a.backs_long)

-- where nothing is dealt
none_cut : {rank : ℕ} {parts : List (List Piece)} (fronts backs : List (List Piece)) → IsSpread [] parts → AreHalved rank parts fronts backs
    → Halves [] fronts backs
none_cut {parts} fronts backs h a =
    let empty : (s : ℕ) → s < length parts → (get_or fronts s [] ≡ []) × (get_or backs s [] ≡ []) =
    λ s k. both_empty (get_or fronts s []) (get_or backs s []) (sym (a.each s k).whole ∙ h.each s k) in
    record {
      first = [];
      second = [];
      in_fronts = nothing_dealt fronts (λ s k. (empty s (inside_fronts a k)).0);
      in_backs = nothing_dealt backs (λ s k. (empty s (inside_backs a k)).1);
      all = refl;
    }

-- where the first piece that is dealt is a front's, it is taken off there
less : {rank : ℕ} {ps : List Piece} {p : Piece} {front back : List Piece} → IsHalved rank ps (p ∷ front) back
    → IsHalved rank (drop 1 ps) front back
less c = record { whole = ap (drop 1) c.whole; below = c.below.1; above = c.above }

cut_less : {rank : ℕ} {parts fronts backs : List (List Piece)} (s : ℕ) (p : Piece) (front : List Piece) → s < length parts
    → get_or fronts s [] ≡ p ∷ front
    → AreHalved rank parts fronts backs → AreHalved rank (set parts s (drop 1 (get_or parts s []))) (set fronts s front) backs
cut_less {rank} {parts} {fronts} {backs} s p front inside e a =
    let long = length-set parts s (drop 1 (get_or parts s [])) in
    record {
      fronts_long = length-set fronts s front ∙ a.fronts_long ∙ sym long;
      backs_long = a.backs_long ∙ sym long;
      each = λ r k. elim (same_or_not r s) [
        | inl same ↦
            let mine : IsHalved rank (get_or parts s []) (p ∷ front) (get_or backs s []) = rw (← e) (a.each s inside) in
            rw (
              same,
              get_or-set_same parts s (drop 1 (get_or parts s [])) [] inside,
              get_or-set_same fronts s front [] (omega (arith, inside, a.fronts_long)),
            ) (less mine)
        | inr other ↦
            rw (get_or-set_other parts s r (drop 1 (get_or parts s [])) [] other, get_or-set_other fronts s r front [] other)
            (a.each r (omega (arith, k, long)))
      ];
    }

front_all : (P : Dealt → Type 0) (xs ys : List Dealt) → AllByRecursion P (xs ++ ys) → AllByRecursion P xs
front_all P [] ys h = tt
front_all P (x ∷ xs) ys h = (h.0, front_all P xs ys h.1)

within_more : (ds : List Dealt) {n m : ℕ} → n ≡ m → AllByRecursion (λ d. d.part < n) ds → AllByRecursion (λ d. d.part < m) ds
within_more ds e h = rw (← e) h

one_more : {rank : ℕ} (d : Dealt) (ds : List Dealt) {parts fronts backs : List (List Piece)} (p : Piece) (front : List Piece)
    → IsSpread (d ∷ ds) parts → AreHalved rank parts fronts backs
    → get_or fronts d.part [] ≡ p ∷ front → Halves ds (set fronts d.part front) backs → Halves (d ∷ ds) fronts backs
one_more d ds {parts} {fronts} {backs} p front h a e g =
    let i : d.part < length fronts = omega (arith, h.within.0, a.fronts_long) in
    let mine : d.piece ∷ pieces_in d.part ds ≡ p ∷ (front ++ get_or backs d.part []) =
    sym (here d ds d.part refl) ∙ sym (h.each d.part h.within.0) ∙ (a.each d.part h.within.0).whole
    ∙ ap (λ f. f ++ get_or backs d.part []) e in
    let front_is : front ≡ pieces_in d.part g.first =
    sym (get_or-set_same fronts d.part front [] i) ∙ g.in_fronts.each d.part (omega (arith, i, length-set fronts d.part front)) in
    let own : get_or fronts d.part [] ≡ pieces_in d.part (d ∷ g.first) =
    let first : p ∷ front ≡ d.piece ∷ pieces_in d.part g.first = cc (mine, front_is) in e ∙ first ∙ sym (here d g.first d.part refl) in
    record {
      first = d ∷ g.first;
      second = g.second;
      in_fronts = record {
        each = λ r k. elim (same_or_not r d.part) [
          | inl same ↦ ap (λ s. get_or fronts s []) same ∙ own ∙ sym (ap (λ s. pieces_in s (d ∷ g.first)) same)
          | inr other ↦ sym (get_or-set_other fronts d.part r front [] other)
              ∙ g.in_fronts.each r (omega (arith, k, length-set fronts d.part front)) ∙ sym (away d g.first r (λ z. other (cc)))
        ];
        within = (i, within_more g.first (length-set fronts d.part front) g.in_fronts.within);
        ordered = (front_all (IsBefore d) g.first g.second (subst (AllByRecursion (IsBefore d)) g.all h.ordered.0), g.in_fronts.ordered);
      };
      in_backs = g.in_backs;
      all = ap (λ xs. d ∷ xs) g.all;
    }

-- where it isn't, no front has a piece
precedes_trans : (a b c : Key) → precedes a b ≡ true → precedes b c ≡ true → precedes a c ≡ true
precedes_trans a b c h k = grind (arith, nat_tests)

none_in : {rank : ℕ} (d : Dealt) (ds : List Dealt) {parts fronts backs : List (List Piece)} → IsSpread (d ∷ ds) parts
    → AreHalved rank parts fronts backs → get_or fronts d.part [] ≡ []
    → (s : ℕ) → s < length parts → (front : List Piece) → get_or fronts s [] ≡ front → front ≡ []
none_in d ds h a e s k [] is = refl
none_in {rank} d ds {parts} {fronts} {backs} h a e s k (q ∷ qs) is =
    let apart : d.part ≢ s = λ same. absurd (let none : [] ≡ q ∷ qs = sym e ∙ ap (λ r. get_or fronts r []) same ∙ is in cc) in
    let has : pieces_in s ds ≡ q ∷ (qs ++ get_or backs s []) =
    sym (away d ds s apart) ∙ sym (h.each s k) ∙ (a.each s k).whole ∙ ap (λ f. f ++ get_or backs s []) is in
    let f = found s (IsBefore d) ds q.key (ap first_key has) h.ordered.0 in
    let before : precedes d.piece.key q.key ≡ true =
    elim f.holds [ inl same ↦ absurd (apart (same ∙ f.its)) | inr before ↦ cc (before, f.is) ] in
    let low : AllByRecursion (λ (p : Piece). precedes p.key (rank_key rank) ≡ true) (q ∷ qs) =
    subst (AllByRecursion (λ (p : Piece). precedes p.key (rank_key rank) ≡ true)) is (a.each s k).below in
    let first : get_or backs d.part [] ≡ d.piece ∷ pieces_in d.part ds =
    sym (ap (λ f. f ++ get_or backs d.part []) e) ∙ sym (a.each d.part h.within.0).whole ∙ h.each d.part h.within.0
    ∙ here d ds d.part refl in
    absurd (not_both (precedes_trans d.piece.key q.key (rank_key rank) before low.0)
    ((a.each d.part h.within.0).above d.piece.key (ap first_key first)))

all_back : {rank : ℕ} (d : Dealt) (ds : List Dealt) {parts fronts backs : List (List Piece)} → IsSpread (d ∷ ds) parts
    → AreHalved rank parts fronts backs → get_or fronts d.part [] ≡ []
    → Halves (d ∷ ds) fronts backs
all_back d ds {parts} {fronts} {backs} h a e =
    let none : (s : ℕ) → s < length parts → get_or fronts s [] ≡ [] = λ s k. none_in d ds h a e s k (get_or fronts s []) refl in
    record {
      first = [];
      second = d ∷ ds;
      in_fronts = nothing_dealt fronts (λ s k. none s (inside_fronts a k));
      in_backs = record {
        each = λ s k.
            let i = inside_backs a k in
            sym (ap (λ f. f ++ get_or backs s []) (none s i)) ∙ sym (a.each s i).whole ∙ h.each s i;
        within = within_more (d ∷ ds) (sym a.backs_long) h.within;
        ordered = h.ordered;
      };
      all = refl;
    }

cut_by : {rank : ℕ} (d : Dealt) (ds : List Dealt) {parts : List (List Piece)} (fronts backs : List (List Piece)) → IsSpread (d ∷ ds) parts
    → AreHalved rank parts fronts backs
    → (front : List Piece) → get_or fronts d.part [] ≡ front
    → ((others : List (List Piece)) → AreHalved rank (set parts d.part (drop 1 (get_or parts d.part []))) others backs
    → Halves ds others backs) → Halves (d ∷ ds) fronts backs
cut_by d ds fronts backs h a [] e rest = all_back d ds h a e
cut_by d ds fronts backs h a (p ∷ front) e rest = one_more d ds p front h a e
    (rest (set fronts d.part front) (cut_less d.part p front h.within.0 e a))

pub halves : {rank : ℕ} (dealt : List Dealt) {parts : List (List Piece)} (fronts backs : List (List Piece)) → IsSpread dealt parts
    → AreHalved rank parts fronts backs → Halves dealt fronts backs
halves [] fronts backs h a = none_cut fronts backs h a
halves (d ∷ ds) {parts} fronts backs h a =
    cut_by d ds fronts backs h a (get_or fronts d.part []) refl
    (λ others b. halves ds others backs (takes d ds parts d.part h refl h.within.0) b)

-- what the halves give is what the whole gives
pub both_gather : {rank : ℕ} {parts fronts backs : List (List Piece)} {t u : List ℕ} {sent more fell others : ℕ}
    → AreHalved rank parts fronts backs
    → Gathers fronts t sent fell → Gathers backs u more others → Gathers parts (t ++ u) (sent + more) (fell + others)
both_gather {fronts} {backs} a f b = λ dealt h.
    let g = halves dealt fronts backs h a in
    let front = f g.first g.in_fronts in
    let back = b g.second g.in_backs in (
      cc (front.0, back.0, flat_map-append (λ d. d.piece.text) g.first g.second, ap dealt_text g.all),
      omega (arith, front.1, back.1, sum_by-append (λ d. d.piece.txs) g.first g.second, ap txs_of g.all),
      omega (arith, front.2, back.2, sum_by-append (λ d. d.piece.drops) g.first g.second, ap drops_of g.all),
    )

-- where a half was made, it gives what it should
pub made : {T E : Type 0} (P : T → Type 0) {r : Result T E} {x : T} → r ≡ Ok x → IfOk r P → P x
made P is h = subst (λ r. IfOk r P) is h

-- four texts that are put behind one another
pub four_texts : (a b c d : List ℕ) {none one two three four all : List ℕ} → none ≡ [] → one ≡ none ++ a → two ≡ one ++ b → three ≡ two ++ c
    → four ≡ three ++ d
    → (a ++ b) ++ (c ++ d) ≡ all → four ≡ all
four_texts a b c d z f g h k e = cc (append_assoc (a ++ b) c d)

pub four_counts : (a b c d : ℕ) {one two three four all : ℕ} → one ≡ 0 + a → two ≡ one + b → three ≡ two + c → four ≡ three + d
    → (a + b) + (c + d) ≡ all → four ≡ all
four_counts a b c d f g h k e = omega (arith, f, g, h, k, e)

-- one more text is the last
pub text_more : {X : Type 0} (f : X → List ℕ) (xs ys : List X) (x : X) (line : List ℕ) {none own : List ℕ} → ys ≡ xs ++ x ∷ [] → f x ≡ own
    → none ≡ [] → own ≡ none ++ line → flat_map f ys ≡ flat_map f xs ++ line
text_more f xs ys x line e is z t = cc (flat_map-append f xs (x ∷ []), append-nil line)
