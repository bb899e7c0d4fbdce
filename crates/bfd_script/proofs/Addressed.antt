-- Addresses that are kept as they came, and a set of others.
use Rattle.bfd_script.proofs.Common.{◌≡◌, ℕ, Bool, true, false, ◌||◌, cond, List, [], ◌∷◌, ◌++◌, ◌-◌, ◌≤◌, length, take, drop}
use Rattle.bfd_script.proofs.Common.{slice_index_or, refl, sym, ap, ◌∙◌, arith, length-drop, is_eq, is_gt, is_lt, ordering_reverse, RowKind}
use Rattle.bfd_script.proofs.Common.{has_addresses, selector_level_back, same_turned, AreUpTo, among, Less, Equal, Greater}
use Rattle.std.proofs.lemmas.Cmp.{eq_by_cmp_equiv, tied_itself, upto}
use Rattle.std.proofs.Math.Seq.{take-length}
use Rattle.std.proofs.lemmas.List.Folds.{list_any-append}
use Rattle.std.specs.declared.cmp.Ordering.{Ordering}
use Rattle.bfd_demux.specs.contracts.row.RowKindOrd.TheImpl as order
use Rattle.bfd_demux.specs.contracts.row.RowKindOrd.TheImpl.Laws.{total-law}
use Rattle.bfd_demux.specs.Rows.{same_selector}
use Rattle.bfd_script.proofs.Elements.{each_more, each_to}
use Rattle.bfd_script.proofs.Inserting.{noted}

-- ---- none of them is this one

apart_by : (e up : Ordering) {down : Ordering} → down ≡ ordering_reverse up → is_lt up ≡ true → (e ≡ Equal → is_gt down ≡ false)
    → is_eq e ≡ false
apart_by Equal Less r l same = cc (same refl)
apart_by Equal Equal r l same = sym l
apart_by Equal Greater r l same = sym l
apart_by e up r l same = refl

-- one that isn't above the greatest isn't this one
apart : (greatest kind k : RowKind) → is_lt (order.ghosts.cmp greatest kind) ≡ true → is_gt (order.ghosts.cmp k greatest) ≡ false
    → is_eq (order.ghosts.cmp kind k) ≡ false
apart greatest kind k above h = apart_by (order.ghosts.cmp kind k) (order.ghosts.cmp greatest kind) (total-law.antisymm kind greatest) above
    (λ e. cc (total-law.congr kind k greatest e))

none_up_to : (greatest kind : RowKind) (kinds : List RowKind) → AreUpTo greatest kinds → is_lt (order.ghosts.cmp greatest kind) ≡ true
    → among kinds kind ≡ false
none_up_to greatest kind [] all above = refl
none_up_to greatest kind (k ∷ kinds) all above = rw (apart greatest kind k above all.0) (none_up_to greatest kind kinds all.1 above)

-- one above the greatest is in the set alone
pub above_all : (greatest kind : RowKind) (rising keys : List RowKind) → AreUpTo greatest rising
    → is_lt (order.ghosts.cmp greatest kind) ≡ true
    → among keys kind ≡ among (rising ++ keys) kind
above_all greatest kind rising keys all above =
    sym (list_any-append (λ k. is_eq (order.ghosts.cmp kind k)) rising keys ∙ rw (none_up_to greatest kind rising all above) refl)

-- ---- one more

below : (o : Ordering) → is_lt o ≡ true → is_gt o ≡ false
below Greater e = cc
below o e = refl

-- the greatest is the new one
pub up_to_more : (greatest kind : RowKind) (rising : List RowKind) {more : List RowKind} → AreUpTo greatest rising
    → is_lt (order.ghosts.cmp greatest kind) ≡ true
    → more ≡ rising ++ kind ∷ [] → AreUpTo kind more
up_to_more greatest kind rising all above e =
    let P : RowKind → Type 0 = λ k. is_gt (order.ghosts.cmp k kind) ≡ false in
    let was = each_to rising (λ k h. upto total-law k greatest kind h (below (order.ghosts.cmp greatest kind) above)) all in
    rw e (each_more P rising (kind ∷ []) was (ap is_gt (tied_itself total-law kind), tt))

one_more_by : (a b e : Bool) {s : Bool} → e ≡ s → ((a || (e || false)) || b) ≡ (s || (a || b))
one_more_by true b true h = rw (sym h) refl
one_more_by true b false h = rw (sym h) refl
one_more_by false b true h = rw (sym h) refl
one_more_by false b false h = rw (sym h) refl

like : (q kind : RowKind) → has_addresses kind ≡ true → is_eq (order.ghosts.cmp q kind) ≡ same_selector q kind
like q kind some = selector_level_back q kind some ∙ same_turned kind q

-- the new one stands behind the others
pub pushed : (kind : RowKind) (rising : List RowKind) {more : List RowKind} (keys : List RowKind) {were : List RowKind}
    → has_addresses kind ≡ true → more ≡ rising ++ kind ∷ [] → rising ++ keys ≡ were
    → (q : RowKind) → among (more ++ keys) q ≡ (same_selector q kind || among were q)
pushed kind rising {more} keys some e view q =
    let P : RowKind → Bool = λ k. is_eq (order.ghosts.cmp q k) in
    cc (
      list_any-append P more keys,
      list_any-append P rising (kind ∷ []),
      one_more_by (among rising q) (among keys q) _ (like q kind some),
      list_any-append P rising keys,
    )

-- the set has all, and the new one
pub collected : (kind : RowKind) (rising keys all : List RowKind) {were : List RowKind} {old : RowKind → Bool} → has_addresses kind ≡ true
    → rising ++ keys ≡ were
    → ((q : RowKind) → old q ≡ (among rising q || among keys q))
    → ((q : RowKind) → among all q ≡ cond (is_eq (order.ghosts.cmp kind q)) true (old q))
    → (q : RowKind) → among all q ≡ (same_selector q kind || among were q)
collected kind rising keys all {old} some view put got q =
    let P : RowKind → Bool = λ k. is_eq (order.ghosts.cmp q k) in
    cc (noted old kind some got q, put q, list_any-append P rising keys)

-- ---- all of a list

put_by : (e : Bool) {f : Bool} (a b : Bool) → e ≡ f → (a || cond e true b) ≡ ((f || a) || b)
put_by true true b h = rw (sym h) refl
put_by true false b h = rw (sym h) refl
put_by false true b h = rw (sym h) refl
put_by false false b h = rw (sym h) refl

-- one that was put in needs no longer be looked at
one_put : (kind : RowKind) (rest : List RowKind) {old new goal : RowKind → Bool}
    → ((q : RowKind) → new q ≡ cond (is_eq (order.ghosts.cmp kind q)) true (old q))
    → ((q : RowKind) → (among (kind ∷ rest) q || old q) ≡ goal q)
    → (q : RowKind) → (among rest q || new q) ≡ goal q
one_put kind rest {old} got was q = cc (got q, put_by _ (among rest q) (old q) ((eq_by_cmp_equiv total-law).symm kind q), was q)

behind : (n : ℕ) (kinds : List RowKind) → take (length kinds - n) (drop n kinds) ≡ drop n kinds
behind n kinds = cc (length-drop n kinds, take-length (drop n kinds))

-- the same, of the first of a list
pub first_put : (kinds : List RowKind) {d : RowKind} (old : RowKind → Bool) {new goal : RowKind → Bool} → 1 ≤ length kinds
    → d ≡ slice_index_or kinds 0 d
    → ((q : RowKind) → new q ≡ cond (is_eq (order.ghosts.cmp d q)) true (old q)) → ((q : RowKind) → (among kinds q || old q) ≡ goal q)
    → (q : RowKind) → (among (take (length kinds - 1) (drop 1 kinds)) q || new q) ≡ goal q
first_put [] old long is got was q = absurd (omega (arith, long))
first_put (kind ∷ kinds) old {new} long is got was q =
    let put : (q : RowKind) → new q ≡ cond (is_eq (order.ghosts.cmp kind q)) true (old q) =
    rw (← is) got in
    rw (behind 1 (kind ∷ kinds)) (one_put kind kinds put was q)

-- one above all others, with no set besides, is new
pub next_new : (greatest kind : RowKind) (rising keys : List RowKind) {were : List RowKind} → AreUpTo greatest rising → length keys ≡ 0
    → rising ++ keys ≡ were → is_lt (order.ghosts.cmp greatest kind) ≡ true → among were kind ≡ false
next_new greatest kind rising [] all empty view above = cc (above_all greatest kind rising [] all above)
next_new greatest kind rising (k ∷ keys) all empty view above = absurd (omega (arith, empty))
