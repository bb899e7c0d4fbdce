-- One more session in a table: the entries, the places, and what stays true of the sessions.
use Rattle.bfd_script.proofs.Common.{◌≡◌, ℕ, ◌<◌, ◌==◌, Bool, true, false, ◌||◌, cond, List, [], ◌∷◌, length, refl, sym, ap, ◌∙◌, arith}
use Rattle.bfd_script.proofs.Common.{nat_lt, subst, nat_tests, is_some, AllByRecursion, values_of, lookup, is_at, insert_entry, nat_cmp}
use Rattle.bfd_script.proofs.Common.{is_eq, row_of, Differs, SessionConfig, discr_of, RowKind, has_addresses, selector_level}
use Rattle.bfd_script.proofs.Common.{unaddressed_back, same_turned, has_discr, has_place, has_selector, inserted, by_discr, IsRow}
use Rattle.bfd_script.proofs.Common.{AreConfigs, IsIndexed, Ascends, same_selector, IsFit}
use Rattle.bfd_demux.specs.contracts.row.RowKindOrd.TheImpl as kinds
use Rattle.bfd_demux.specs.Rows.{same_selector as same_kind}
use Rattle.bfd_script.proofs.Elements.{each_to}
use Rattle.bfd_script.proofs.Numbered.{any_inserted, each_inserted, entries_more, known_among, length_inserted, none_any}

pub known_at : (k : ℕ) (entries : List (ℕ × SessionConfig)) → entries ≡ by_discr (values_of entries)
    → is_some (lookup (is_at (nat_cmp k)) entries) ≡ has_discr k (values_of entries)
known_at k entries keyed = known_among discr_of k keyed

-- ---- the places

places_more : (old new : RowKind → Bool) (s : RowKind) (c : SessionConfig) (cs : List SessionConfig) → s ≡ (row_of c).kind
    → ((q : RowKind) → old q ≡ has_selector q cs) → ((q : RowKind) → new q ≡ (same_kind q s || old q)) → (q : RowKind)
    → new q ≡ has_selector q (inserted c cs)
places_more old new s c cs is were are q = cc (are q, were q, any_inserted discr_of (λ d. same_kind q (row_of d).kind) c cs)

-- ---- what stays true

ascends_cond : (less same : Bool) {has : Bool} (c d : SessionConfig) (ds : List SessionConfig)
    → nat_lt (discr_of c) (discr_of d) ≡ less → (discr_of c == discr_of d) ≡ same → (same || has) ≡ false
    → Ascends (d ∷ ds) → (has ≡ false → Ascends (inserted c ds)) → Ascends (cond less (c ∷ d ∷ ds) (d ∷ inserted c ds))
ascends_cond true same c d ds l s none all more =
    let low : discr_of c < discr_of d = grind (arith, nat_tests) in
    ((low, each_to ds (λ x h. omega arith) all.0), all)
ascends_cond false true c d ds l s none all more = cc
ascends_cond false false c d ds l s none all more =
    (each_inserted discr_of (λ x. discr_of d < discr_of x) ds (grind (arith, nat_tests)) all.0, more none)

pub ascends_inserted : (c : SessionConfig) (cs : List SessionConfig) → has_discr (discr_of c) cs ≡ false → Ascends cs
    → Ascends (inserted c cs)
ascends_inserted c [] none all = (tt, tt)
ascends_inserted c (d ∷ ds) none all = ascends_cond (nat_lt (discr_of c) (discr_of d)) _ c d ds refl refl none all
    (λ h. ascends_inserted c ds h all.1)

differs_cond : (less : Bool) (c d : SessionConfig) (ds : List SessionConfig)
    → AllByRecursion (λ x. same_selector c x ≡ false) (d ∷ ds) → Differs (d ∷ ds) → Differs (inserted c ds)
    → Differs (cond less (c ∷ d ∷ ds) (d ∷ inserted c ds))
differs_cond true c d ds new all more = (new, all)
differs_cond false c d ds new all more =
    (each_inserted discr_of (λ x. same_selector d x ≡ false) ds (same_turned (row_of d).kind (row_of c).kind ∙ new.0) all.0, more)

differs_inserted : (c : SessionConfig) (cs : List SessionConfig) → AllByRecursion (λ x. same_selector c x ≡ false) cs → Differs cs
    → Differs (inserted c cs)
differs_inserted c [] new all = (tt, tt)
differs_inserted c (d ∷ ds) new all = differs_cond (nat_lt (discr_of c) (discr_of d)) c d ds new all (differs_inserted c ds new.1 all.1)

configs_more : (c : SessionConfig) (cs : List SessionConfig) → has_discr (discr_of c) cs ≡ false → has_place c cs ≡ false
    → length cs < 65536 → IsFit c → IsRow c → AreConfigs cs → AreConfigs (inserted c cs)
configs_more c cs discr place room fit row were = record {
  ascends = ascends_inserted c cs discr were.ascends;
  differs = differs_inserted c cs (none_any (same_selector c) cs place) were.differs;
  fit = each_inserted discr_of IsFit cs fit were.fit;
  rows = each_inserted discr_of IsRow cs row were.rows;
  few = omega (arith, length_inserted discr_of c cs);
}

-- the sessions of the longer table
pub rows_more : (c : SessionConfig) {k : ℕ} {cs : List SessionConfig} {entries more : List (ℕ × SessionConfig)}
    → entries ≡ by_discr (values_of entries)
    → values_of entries ≡ cs → k ≡ discr_of c → has_discr (discr_of c) cs ≡ false → more ≡ insert_entry nat_cmp entries k c
    → values_of more ≡ inserted c cs
rows_more c {entries} keyed view key none e =
    cc ((entries_more discr_of c keyed (ap (has_discr (discr_of c)) view ∙ none) (e ∙ ap (λ j. insert_entry nat_cmp entries j c) key)).1)

-- the whole table
pub table_more : (c : SessionConfig) {k : ℕ} {s : RowKind} {cs : List SessionConfig} {entries more : List (ℕ × SessionConfig)} {old
    new : RowKind → Bool}
    → IsIndexed entries old → values_of entries ≡ cs → k ≡ discr_of c → s ≡ (row_of c).kind
    → has_discr (discr_of c) cs ≡ false → has_place c cs ≡ false → length cs < 65536 → IsFit c → IsRow c
    → more ≡ insert_entry nat_cmp entries k c → ((q : RowKind) → new q ≡ (same_kind q s || old q)) → IsIndexed more new
table_more c {k} {s} {cs} {entries} {more} {old} {new} were view key place_is discr place room fit row e places =
    let none : has_discr (discr_of c) (values_of entries) ≡ false = cc in
    let m = entries_more discr_of c {entries = entries} {more = more} were.keyed none (e ∙ ap (λ j. insert_entry nat_cmp entries j c) key)
    in
    let Are : List SessionConfig → Type 0 = λ xs. AreConfigs xs in
    record {
      keyed = cc (m.0, m.1);
      places = λ q. cc (places_more old new s c (values_of entries) place_is were.places places q, m.1);
      configs = subst Are (ap (inserted c) (sym view) ∙ sym m.1) (configs_more c cs discr place room fit row (subst Are view were.configs));
    }

-- ---- a set of addresses

-- the kinds that a session with addresses is like are those that compare Equal
noted_step : (at same old : Bool) → at ≡ same → cond at true old ≡ (same || old)
noted_step true same old e = rw (sym e) refl
noted_step false same old e = rw (sym e) refl

pub noted : (old : RowKind → Bool) {new : RowKind → Bool} (kind : RowKind) → has_addresses kind ≡ true
    → ((q : RowKind) → new q ≡ cond (is_eq (kinds.ghosts.cmp kind q)) true (old q)) → (q : RowKind) → new q ≡ (same_kind q kind || old q)
noted old kind some are q = are q ∙ noted_step _ (same_kind q kind) (old q) (selector_level kind q some ∙ same_turned kind q)

-- a kind without addresses is like none
pub unnoted : (q kind : RowKind) → has_addresses kind ≡ false → same_kind q kind ≡ false
unnoted q kind none = unaddressed_back q kind none
