-- The reflector that a packet names stands at the place that selection gives.
use Rattle.bfd_session.proofs.Common.{◌≡◌, ◌<◌, ◌==◌, ℕ, zero, suc, Bool, true, false, List, [], ◌∷◌, map, refl, sym, ap, ◌∙◌, subst, arith}
use Rattle.bfd_session.proofs.Common.{None, Some, if◌then◌else◌, slice_get, find, AllByRecursion, nat_tests, eq-eqb, ne_eqb, first_failing}
use Rattle.bfd_session.proofs.Common.{Arrival, Row, names_on, reflector_index, SessionConfig, row_of_reflector, table_of, Reflector}
use Rattle.bfd_session.proofs.Common.{fields_of}
use Rattle.std.specs.Prelude.{◌≢◌}
use Rattle.std.proofs.lemmas.Bool.{lt-ltb, le-ltb}
use Rattle.bfd_session.specs.Reaching.{IsNamed}
use Rattle.bfd_packet.specs.declared.arrival.Port.TheVariants.{Sbfd as SbfdPort}
use Rattle.bfd_demux.specs.Table.{how_many}
use Rattle.bfd_sbfd.specs.Reflect.{Ascends as PoolAscends}
use Rattle.bfd_session.proofs.Places.{Standing, AsSession, AsReflector, at_place, reflects_below, row_session}
use Rattle.bfd_session.proofs.Ports.{unreflected}

none_under : (discr : ℕ) (pool : List Reflector) → AllByRecursion (λ r. discr < r.discr) pool
    → how_many (reflects_below discr) (map row_of_reflector pool) ≡ 0
none_under discr [] h = refl
none_under discr (r ∷ pool) h = rw (le-ltb r.discr discr (omega (arith, h.0))) (none_under discr pool h.1)

-- a reflector's place is the number of reflectors below it
place_in : (pool : List Reflector) (k : ℕ) {r : Reflector} → PoolAscends pool → slice_get pool k ≡ Some r
    → how_many (reflects_below r.discr) (map row_of_reflector pool) ≡ k
place_in [] zero h e = cc
place_in [] (suc k) h e = cc
place_in (x ∷ pool) zero {r} h e =
    let same : x ≡ r = cc in
    let above : AllByRecursion (λ later. r.discr < later.discr) pool = rw (← same) h.0 in
    let out = le-ltb x.discr r.discr (let s = ap (λ y. y.discr) same in omega (arith, s)) in
    rw out (none_under r.discr pool above)
place_in (x ∷ pool) (suc k) {r} h e =
    let above = at_place (λ later. x.discr < later.discr) pool k r h.0 e in
    rw (lt-ltb x.discr r.discr above) (ap suc (place_in pool k h.1 e))

-- no session counts
index_is : (cs : List SessionConfig) (pool : List Reflector) (k : ℕ) {r : Reflector} → PoolAscends pool → slice_get pool k ≡ Some r
    → reflector_index (table_of cs pool) r.discr ≡ k
index_is [] pool k h e = place_in pool k h e
index_is (c ∷ cs) pool k h e = rw (row_session c) (index_is cs pool k h e)

-- the search for a discriminator finds the reflector at its place
found_at : (pool : List Reflector) (k : ℕ) {r : Reflector} → PoolAscends pool → slice_get pool k ≡ Some r
    → find (λ (x : Reflector). x.discr == r.discr) pool ≡ Some r
found_at [] zero h e = cc
found_at [] (suc k) h e = cc
found_at (x ∷ pool) zero {r} h e =
    let same : x ≡ r = cc in
    rw (eq-eqb x.discr r.discr (ap (λ y. y.discr) same)) (cc)
found_at (x ∷ pool) (suc k) {r} h e =
    let above = at_place (λ later. x.discr < later.discr) pool k r h.0 e in
    rw (ne_eqb x.discr r.discr (λ same. absurd (omega (arith, above, same)))) (found_at pool k h.1 e)

-- a name that isn't 0, and whose it is
names_by : (a b : ℕ) (t : Bool) → t ≡ (a == b) → (if b == 0 then false else t) ≡ true → (a ≡ b) × (b ≢ 0)
names_by a b true is h = (grind (arith, nat_tests, is), grind (arith, nat_tests, h))
names_by a b false is h = by (b == 0) h
  where
    by : (z : Bool) → (if z then false else false) ≡ true → (a ≡ b) × (b ≢ 0)
    by true e = cc
    by false e = cc

pub named : (arrival : Arrival) {cs : List SessionConfig} {pool : List Reflector} {row : Row} → PoolAscends pool → SbfdPort ≡ arrival.port
    → first_failing SbfdPort arrival.payload ≡ None → Standing cs pool row → names_on SbfdPort arrival row ≡ true
    → IsNamed pool (reflector_index (table_of cs pool) row.discr) arrival
named arrival up port header (AsSession place config there is) h =
    absurd (unreflected config arrival (subst (λ r. names_on SbfdPort arrival r ≡ true) is h))
named arrival {cs} {pool} {row} up port header (AsReflector place reflector there is) h =
    let at : reflector_index (table_of cs pool) row.discr ≡ place = cc (index_is cs pool place up there) in
    let its = names_by reflector.discr (fields_of arrival.payload).your _ refl (subst (λ r. names_on SbfdPort arrival r ≡ true) is h) in
    record {
      reflector = reflector;
      there = ap (slice_get pool) at ∙ there;
      its = its.0;
      named = rw (ne_eqb (fields_of arrival.payload).your 0 its.1) (rw (← its.0) (found_at pool place up there));
      header = header;
      port = sym port;
    }
