-- One more session in a table, or other keys for one: the sessions that events name are still present.
use Rattle.bfd_script.proofs.Common.{◌≡◌, ℕ, ◌+◌, ◌<◌, ◌==◌, Bool, true, false, ◌||◌, List, length, nat_le, refl, ◌∙◌, arith, nat_tests}
use Rattle.bfd_script.proofs.Common.{or_right, or_parts, SessionConfig, discr_of, is_named, changed, has_discr, inserted, Reflector}
use Rattle.bfd_script.proofs.Common.{has_reflector, reflector_discr, pooled, AreApart, AreNamed, IsReading}
use Rattle.bfd_script.specs.declared.line.entries.Line.{Line}
use Rattle.bfd_script.specs.declared.line.entries.Line.TheVariants as events
use Rattle.bfd_script.proofs.Numbered.{length_inserted}
use Rattle.bfd_script.proofs.Pooling.{apart_inserted, apart_pooled}
use Rattle.bfd_script.proofs.Elements.{each_to}
use Rattle.bfd_script.proofs.Giving.{Keeps, any_changed, length_changed}
use Rattle.bfd_script.proofs.Numbered.{any_inserted}

named_more : (c : SessionConfig) (cs : List SessionConfig) (event : Line) → is_named event cs ≡ true → is_named event (inserted c cs) ≡ true
named_more c cs (events.Cmd m d cmd) h = any_inserted discr_of (λ o. d == discr_of o) c cs
    ∙ or_right (d == discr_of c) (is_named (events.Cmd m d cmd) cs) h
named_more c cs (events.Show m d) h = any_inserted discr_of (λ o. d == discr_of o) c cs
    ∙ or_right (d == discr_of c) (is_named (events.Show m d) cs) h
named_more c cs event h = refl

all_named : (c : SessionConfig) (cs more : List SessionConfig) (lines : List Line) → more ≡ inserted c cs → AreNamed cs lines
    → AreNamed more lines
all_named c cs more lines e h = rw e (each_to lines (named_more c cs) h)

any_named : {f : SessionConfig → SessionConfig} → Keeps f → (k d : ℕ) (cs : List SessionConfig)
    → has_discr d (changed k f cs) ≡ has_discr d cs
any_named {f} kept k d cs = any_changed (λ o. d == discr_of o) f k cs (λ c. cc (kept.discr c))

named_changed : {f : SessionConfig → SessionConfig} → Keeps f → (k : ℕ) (cs : List SessionConfig) (event : Line) → is_named event cs ≡ true
    → is_named event (changed k f cs) ≡ true
named_changed kept k cs (events.Cmd m d cmd) h = any_named kept k d cs ∙ h
named_changed kept k cs (events.Show m d) h = any_named kept k d cs ∙ h
named_changed kept k cs event h = refl

still_named : {f : SessionConfig → SessionConfig} → Keeps f → (k : ℕ) (cs more : List SessionConfig) (lines : List Line)
    → more ≡ changed k f cs → AreNamed cs lines → AreNamed more lines
still_named kept k cs more lines e h = rw e (each_to lines (named_changed kept k cs) h)

-- ---- what is kept from line to line

has_room : {full : Bool} (n : ℕ) → full ≡ nat_le 65536 n → full ≡ false → n < 65536
has_room n e h = grind (arith, nat_tests)

-- one more session
pub reading_row : (c : SessionConfig) {k : ℕ} {taken full : Bool} {cs more : List SessionConfig} {pool : List Reflector} {lines : List Line}
    → IsReading cs pool lines → more ≡ inserted c cs → k ≡ discr_of c → taken ≡ (has_discr k cs || has_reflector k pool) → taken ≡ false
    → full ≡ nat_le 65536 (length cs + length pool) → full ≡ false → IsReading more pool lines
reading_row c {cs} {pool} {lines} were e key taken_is free full_is room =
    let longer = length_inserted discr_of c cs in
    let few = has_room (length cs + length pool) full_is room in
    rw e (record {
      apart = apart_inserted c cs pool (or_parts (has_discr (discr_of c) cs) (has_reflector (discr_of c) pool) (cc)).1 were.apart;
      few = omega arith;
      events = were.events;
      named = all_named c cs (inserted c cs) lines refl were.named;
    })

-- one more reflector
pub reading_reflector : (r : Reflector) {taken full : Bool} {cs : List SessionConfig} {pool more : List Reflector} {lines : List Line}
    → IsReading cs pool lines → more ≡ pooled r pool → taken ≡ (has_discr r.discr cs || has_reflector r.discr pool) → taken ≡ false
    → full ≡ nat_le 65536 (length cs + length pool) → full ≡ false → IsReading cs more lines
reading_reflector r {cs} {pool} were e taken_is free full_is room =
    let longer = length_inserted reflector_discr r pool in
    let few = has_room (length cs + length pool) full_is room in
    rw e (record {
      apart = apart_pooled cs r pool (or_parts (has_discr r.discr cs) (has_reflector r.discr pool) (cc)).0 were.apart;
      few = omega arith;
      events = were.events;
      named = were.named;
    })

-- a reflector is apart from changed sessions
apart_changed : {f : SessionConfig → SessionConfig} → Keeps f → (k : ℕ) (cs : List SessionConfig) (pool : List Reflector) → AreApart cs pool
    → AreApart (changed k f cs) pool
apart_changed kept k cs pool apart = each_to pool (λ r h. any_named kept k r.discr cs ∙ h) apart

-- other keys for a session
pub reading_changed : {f : SessionConfig → SessionConfig} → Keeps f
    → (k : ℕ) {cs more : List SessionConfig} {pool : List Reflector} {lines : List Line}
    → IsReading cs pool lines → more ≡ changed k f cs → IsReading more pool lines
reading_changed {f} kept k {cs} {pool} {lines} were e =
    let same = length_changed f k cs in
    let few = were.few in
    rw e (record {
      apart = apart_changed kept k cs pool were.apart;
      few = omega arith;
      events = were.events;
      named = still_named kept k cs (changed k f cs) lines refl were.named;
    })
