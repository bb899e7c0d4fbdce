-- One more reflector in a pool, and a pool alongside a table of sessions.
use Rattle.bfd_script.proofs.Common.{◌≡◌, ℕ, ◌<◌, ◌==◌, Bool, true, false, ◌||◌, cond, List, [], ◌∷◌, refl, ap, ◌∙◌, arith, nat_lt}
use Rattle.bfd_script.proofs.Common.{nat_tests, is_some, values_of, lookup, is_at, insert_entry, nat_cmp, or_parts, or_from, ltb-true}
use Rattle.bfd_script.proofs.Common.{Reflector, SessionConfig, discr_of, has_discr, has_reflector, inserted, reflector_discr, pool_by_discr}
use Rattle.bfd_script.proofs.Common.{pooled, IsReflector, AreApart, ArePool, IsPool}
use Rattle.bfd_sbfd.specs.Reflect.{Ascends}
use Rattle.bfd_script.proofs.Elements.{each_to}
use Rattle.bfd_script.proofs.Numbered.{any_inserted, each_inserted, entries_more, is_above, known_among}

pub known_at : (k : ℕ) (entries : List (ℕ × Reflector)) → entries ≡ pool_by_discr (values_of entries)
    → is_some (lookup (is_at (nat_cmp k)) entries) ≡ has_reflector k (values_of entries)
known_at k entries keyed = known_among reflector_discr k keyed

-- ---- one more reflector

ascends_cond : (less same : Bool) {has : Bool} (r q : Reflector) (pool : List Reflector)
    → nat_lt r.discr q.discr ≡ less → (r.discr == q.discr) ≡ same → (same || has) ≡ false
    → Ascends (q ∷ pool) → (has ≡ false → Ascends (pooled r pool)) → Ascends (cond less (r ∷ q ∷ pool) (q ∷ pooled r pool))
ascends_cond true same r q pool l s none all more =
    let low = ltb-true r.discr q.discr l in
    ((low, each_to pool (λ x h. let k = h in omega arith) all.0), all)
ascends_cond false true r q pool l s none all more = cc
ascends_cond false false r q pool l s none all more =
    (each_inserted reflector_discr (λ x. q.discr < x.discr) pool (is_above r.discr q.discr l s) all.0, more none)

ascends_pooled : (r : Reflector) (pool : List Reflector) → has_reflector r.discr pool ≡ false → Ascends pool → Ascends (pooled r pool)
ascends_pooled r [] none all = (tt, tt)
ascends_pooled r (q ∷ pool) none all = ascends_cond (nat_lt r.discr q.discr) _ r q pool refl refl none all
    (λ h. ascends_pooled r pool h all.1)

-- the reflectors of the longer pool
pub rows_pooled : (r : Reflector) {pool : List Reflector} {entries more : List (ℕ × Reflector)}
    → entries ≡ pool_by_discr (values_of entries)
    → values_of entries ≡ pool → has_reflector r.discr pool ≡ false → more ≡ insert_entry nat_cmp entries r.discr r
    → values_of more ≡ pooled r pool
rows_pooled r keyed view none e = cc ((entries_more reflector_discr r keyed (ap (has_reflector r.discr) view ∙ none) e).1)

-- the whole pool
pub pool_more : {r : Reflector} {pool : List Reflector} {entries more : List (ℕ × Reflector)} → IsPool entries → values_of entries ≡ pool
    → has_reflector r.discr pool ≡ false → IsReflector r → more ≡ insert_entry nat_cmp entries r.discr r → IsPool more
pool_more {r} {entries} were view none row e =
    let free : has_reflector r.discr (values_of entries) ≡ false = cc in
    let m = entries_more reflector_discr r were.keyed free e in
    let now : ArePool (pooled r (values_of entries)) = record {
      ascends = ascends_pooled r (values_of entries) free were.reflectors.ascends;
      rows = each_inserted reflector_discr IsReflector (values_of entries) row were.reflectors.rows;
    } in
    record { keyed = cc; reflectors = rw m.1 now }

-- ---- alongside the sessions

turned_apart : (a b : ℕ) → (a == b) ≡ false → (b == a) ≡ false
turned_apart a b h = grind (arith, nat_tests)

-- one more session with a discriminator that no reflector has
pub apart_inserted : (c : SessionConfig) (cs : List SessionConfig) (pool : List Reflector) → has_reflector (discr_of c) pool ≡ false
    → AreApart cs pool → AreApart (inserted c cs) pool
apart_inserted c cs [] none apart = tt
apart_inserted c cs (r ∷ pool) none apart =
    let e = or_parts (discr_of c == r.discr) (has_reflector (discr_of c) pool) none in (
      any_inserted discr_of (λ d. r.discr == discr_of d) c cs
          ∙ or_from (r.discr == discr_of c) (has_discr r.discr cs) (turned_apart (discr_of c) r.discr e.0) apart.0,
      apart_inserted c cs pool e.1 apart.1,
    )

-- one more reflector with a discriminator that no session has
pub apart_pooled : (cs : List SessionConfig) (r : Reflector) (pool : List Reflector) → has_discr r.discr cs ≡ false → AreApart cs pool
    → AreApart cs (pooled r pool)
apart_pooled cs r pool none apart = each_inserted reflector_discr (λ q. has_discr q.discr cs ≡ false) pool none apart
