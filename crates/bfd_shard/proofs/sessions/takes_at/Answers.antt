-- The session at a place accepts the event exactly when its configuration says so.
use Rattle.bfd_shard.proofs.Common.{◌≡◌, ◌<◌, ℕ, zero, suc, length, get_or, [], ◌∷◌, arith, Bool, true, false, List, ap, sym, ◌∙◌, Option}
use Rattle.bfd_shard.proofs.Common.{None, Some, IsTrue, ◌↔◌, slice_get, nat_lt, unwrap_or, option_map, SessionConfig, Event, Running}
use Rattle.bfd_shard.proofs.Common.{configs_of, CanTake, IsTaken, nat_tests, slice_get-map, slice_get_past}
use Rattle.bfd_shard.proofs.sessions.takes_at.Goals as goal

-- the configuration at a session's place is the session's
config_at : (ss : List Running) (k : ℕ) {found : Option Running} → slice_get ss k ≡ found
    → slice_get (configs_of ss) k ≡ option_map (λ s. s.config) found
config_at ss k e = cc (slice_get-map (λ s. s.config) ss k)

-- what a look at a place gives
there : (ss : List Running) (k : ℕ) {s : Running} → k < length ss → s ≡ get_or ss k s → slice_get ss k ≡ Some s
there [] k below is = absurd (omega (arith, below))
there (x ∷ ss) zero below is = cc
there (x ∷ ss) (suc k) below is = there ss k (omega (arith, below)) is

present : (ss : List Running) (k : ℕ) {s : Running} → true ≡ nat_lt k (length ss) → s ≡ get_or ss k s → slice_get ss k ≡ Some s
present ss k below is = there ss k (grind (arith, nat_tests)) is

absent : (ss : List Running) (k : ℕ) → false ≡ nat_lt k (length ss) → slice_get ss k ≡ None
absent ss k h = slice_get_past ss k (grind (arith, nat_tests))

taken : (ss : List Running) (k : ℕ) {s : Running} (event : Event) (b : Bool) → slice_get ss k ≡ Some s
    → (IsTrue b ↔ CanTake s.config event) → IsTrue b ↔ IsTaken (configs_of ss) k event
taken ss k {s} event b e takes = (
  λ h. record { config = s.config; there = config_at ss k e; takes = takes.0 h },
  λ h. takes.1 (rw (← ap (λ o. unwrap_or o s.config) (sym h.there ∙ config_at ss k e)) h.takes),
)

untaken : (ss : List Running) (k : ℕ) (event : Event) → slice_get ss k ≡ None → IsTrue false ↔ IsTaken (configs_of ss) k event
untaken ss k event e = (λ h. cc, λ h. none_there (sym h.there ∙ config_at ss k {found = None} e))
  where
    none_there : {c : SessionConfig} → Some c ≡ None → IsTrue false
    none_there h = cc

pub returns-in-Some : goal.returns-in-Some
returns-in-Some c =
    taken c.args.sessions.now c.args.place c.args.event.now c.takes.result
    (present c.args.sessions.now c.args.place c.in-Some.ensures.lookup.0 c.in-Some.ensures.lookup.1)
    (rw c.session.ensures at c.takes.ensures)

pub returns-in-None : goal.returns-in-None
returns-in-None c = untaken c.args.sessions.now c.args.place c.args.event.now
    (absent c.args.sessions.now c.args.place c.in-None.ensures.lookup.0)
