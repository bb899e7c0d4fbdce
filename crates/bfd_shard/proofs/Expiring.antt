-- A tick expires exactly the sessions whose Detection Time has expired by it.
use Rattle.bfd_shard.proofs.Common.{◌≡◌, ◌&&◌, ◌||◌, ◌*◌, ◌+◌, ◌++◌, ℕ, max, Bool, List, [], ◌∷◌, map, Option, Some, None, is_some, is_none}
use Rattle.bfd_shard.proofs.Common.{IsSome, refl, zip, AllByRecursion, has_come, places, SessionConfig, ticked, detects, Running}
use Rattle.bfd_shard.proofs.Common.{configs_of, IsSound, tick_next, ShardEvent, Own, Tick, events_of, last_tick, moved, runs, Shard}
use Rattle.bfd_shard.proofs.Common.{IsExact, IsShard, expired, forgets, forgotten, has_expired}
use Rattle.bfd_shard.specs.Sessions.{HasForgotten}
use Rattle.bfd_shard.proofs.Runs.{runs_more}

-- what a tick does to what was heard
pub record Expires : Type 0 where
  pub expires : (s : Running) (limit eff : ℕ) → is_none (tick_next limit eff s).vars.heard
      ≡ (is_none s.vars.heard || has_come limit (detects s))
  pub heard : (s : Running) → IsSound s → IsSome (detects s) → IsSome s.vars.heard

-- what was heard is forgotten when the deadline has come, which is present only if something was heard
forgot : (o d : Option ℕ) (limit : ℕ) {none : Bool} → none ≡ (is_none o || has_come limit d) → (IsSome d → IsSome o)
    → (is_some o && none) ≡ has_come limit d
forgot (Some h) d limit is there = is
forgot None None limit is there = refl
forgot None (Some x) limit is there = let h = there refl in cc

module _ (laws : Expires) (last : ℕ) where
  forgets_one : (s : Running) → IsSound s → forgets (s, ticked last s) ≡ has_expired last s
  forgets_one s sound = forgot s.vars.heard (detects s) (1000 * last) (laws.expires s (1000 * last) (max (1000 * last) s.vars.at))
      (laws.heard s sound)

  forgets_all : (n : ℕ) (ss : List Running) → AllByRecursion IsSound ss
      → places forgets n (zip ss (map (ticked last) ss)) ≡ places (has_expired last) n ss
  forgets_all n [] sound = refl
  forgets_all n (s ∷ ss) sound = cc (forgets_one s sound.0, forgets_all (n + 1) ss sound.1)

pub tick_expires : (laws : Expires) (cs : List SessionConfig) (es : List ShardEvent) (t : ℕ) → AllByRecursion IsSound (runs es cs)
    → forgotten (runs es cs) (runs (es ++ Tick t ∷ []) cs) ≡ expired cs es t
unfolding moved
tick_expires laws cs es t sound = cc (runs_more es (Tick t) cs, forgets_all laws (max (last_tick es) t) 0 (runs es cs) sound)

-- .. of one event of sessions, whatever went before
pub exactly_now : (laws : Expires) (last : ℕ) (e : ShardEvent) (before after : List Running) → AllByRecursion IsSound before
    → after ≡ moved last e before
    → HasForgotten last e before after
unfolding moved
exactly_now laws last (Own place moment event) before after sound m = tt
exactly_now laws last (Tick t) before after sound m = cc (forgets_all laws (max last t) 0 before sound)

-- the law of expiry, of one event of a shard
pub exactly : ((cs : List SessionConfig) (es : List ShardEvent) (t : ℕ) → AllByRecursion IsSound (runs es cs)
    → forgotten (runs es cs) (runs (es ++ Tick t ∷ []) cs) ≡ expired cs es t)
    → {shard : Shard} (e : ShardEvent) {after : List Running} → IsShard shard → after ≡ moved shard.last e shard.sessions
    → IsExact shard e after
exactly law (Own place moment event) s m = tt
exactly law {shard} (Tick t) {after} s m =
    let cs : List SessionConfig = configs_of shard.sessions in
    let es : List ShardEvent = events_of shard.journal in
    let new : after ≡ runs (es ++ Tick t ∷ []) cs =
    cc (runs_more es (Tick t) cs) in
    cc (law cs es t (rw (← s.whole) s.sound))
