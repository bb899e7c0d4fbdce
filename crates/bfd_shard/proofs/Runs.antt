-- A history that grows by one event.
use Rattle.bfd_shard.proofs.Common.{◌≡◌, ◌≢◌, ◌⊎◌, inl, inr, ℕ, ◌+◌, ◌<◌, ◌≤◌, refl, sym, ◌∙◌, ap, List, [], ◌∷◌, ◌++◌, length}
use Rattle.bfd_shard.proofs.Common.{length-append, max, get_or, set, Option, None, Some, Bool, true, false, arith, get_or-set_same}
use Rattle.bfd_shard.proofs.Common.{get_or-set_other, length-set, zero, suc, ext_get_or, if◌then◌else◌, ◌==◌, slice_get, AllByRecursion}
use Rattle.bfd_shard.proofs.Common.{get_or-map, length-map, map-append, cases_eq, greatest_tick, SessionConfig, Event, stepped, ticked}
use Rattle.bfd_shard.proofs.Common.{Running, configs_of, IsSound, started, ShardEvent, Own, Tick, Entry, events_of, later, last_from}
use Rattle.bfd_shard.proofs.Common.{last_tick, after, run_from, run, runs_from, runs, moved, own_moved, shard_of, IsShard, IsHistory}
use Rattle.bfd_shard.proofs.Common.{IsOnTime, CanHappen, nat_tests, get_or_from_slice_get, slice_get_within}
use Rattle.bfd_session.proofs.Standing.{ticked_configs}
use Rattle.bfd_shard.proofs.Ticks.{nobody}

-- one session

run_more : (p last : ℕ) (es : List ShardEvent) (e : ShardEvent) (s : Running)
    → run_from p last (es ++ e ∷ []) s ≡ after p (last_from last es) e (run_from p last es s)
unfolding run_from last_from
run_more p last [] e s = refl
run_more p last (x ∷ es) e s = run_more p (later last x) es e (after p last x s)

pub last_more : (last : ℕ) (es : List ShardEvent) (e : ShardEvent) → last_from last (es ++ e ∷ []) ≡ later (last_from last es) e
unfolding last_from
last_more last [] e = refl
last_more last (x ∷ es) e = last_more (later last x) es e

-- all sessions

pub runs_long : (p : ℕ) (es : List ShardEvent) (cs : List SessionConfig) → length (runs_from p es cs) ≡ length cs
unfolding runs_from
runs_long p es [] = refl
runs_long p es (c ∷ cs) = ap suc (runs_long (p + 1) es cs)

pub runs_at : (p : ℕ) (es : List ShardEvent) (cs : List SessionConfig) (k m : ℕ) (c : SessionConfig) (d : Running) → k < length cs
    → p + k ≡ m
    → get_or (runs_from p es cs) k d ≡ run m es (get_or cs k c)
unfolding runs_from
runs_at p es [] k m c d h e = absurd (omega arith)
runs_at p es (x ∷ cs) zero m c d h e = ap (λ n. run n es x) (let same : p ≡ m = omega arith in same)
runs_at p es (x ∷ cs) (suc k) m c d h e = runs_at (p + 1) es cs k m c d (omega arith) (omega arith)

-- an event of all sessions

chosen : {A : Type 0} (q k : ℕ) (x y : A) → q ≡ k → (if q == k then x else y) ≡ x
chosen q k x y e = grind (arith, nat_tests)

passed : {A : Type 0} (q k : ℕ) (x y : A) → q ≢ k → (if q == k then x else y) ≡ y
passed q k x y e = grind (arith, nat_tests)

-- where nobody stands is past the end
past_end : (ss : List Running) (k q : ℕ) → slice_get ss q ≡ None → k < length ss → q ≢ k
past_end [] k q e h = absurd (omega arith)
past_end (x ∷ ss) zero zero e h = cc
past_end (x ∷ ss) (suc k) (suc q) e h = omega (arith, past_end ss k q e (omega arith))
past_end (x ∷ ss) k q e h = omega arith

own_at : (last q m : ℕ) (ev : Event) (ss : List Running) (o : Option Running) → slice_get ss q ≡ o → (k : ℕ) (d : Running) → k < length ss
    → get_or (own_moved o q m last ev ss) k d ≡ after k last (Own q m ev) (get_or ss k d)
own_at last q m ev ss None e k d h = sym (passed q k (stepped m last ev (get_or ss k d)) (get_or ss k d) (past_end ss k q e h))
own_at last q m ev ss (Some x) e k d h = by (cases_eq k q)
  where
    by : (k ≡ q) ⊎ (k ≢ q) → get_or (set ss q (stepped m last ev x)) k d ≡ after k last (Own q m ev) (get_or ss k d)
    by (inl same) =
        ap (λ j. get_or (set ss q (stepped m last ev x)) j d) same
        ∙ (get_or-set_same ss q (stepped m last ev x) d (slice_get_within ss q x e)
        ∙ (ap (stepped m last ev) (sym (get_or_from_slice_get ss q x d e) ∙ ap (λ j. get_or ss j d) (sym same))
        ∙ sym (chosen q k (stepped m last ev (get_or ss k d)) (get_or ss k d) (sym same))))
    by (inr other) =
        get_or-set_other ss q k (stepped m last ev x) d other
        ∙ sym (passed q k (stepped m last ev (get_or ss k d)) (get_or ss k d) (λ z. other (sym z)))

pub moved_at : (last : ℕ) (e : ShardEvent) (ss : List Running) (k : ℕ) (d : Running) → k < length ss
    → get_or (moved last e ss) k d ≡ after k last e (get_or ss k d)
unfolding moved
moved_at last (Own q m ev) ss k d h = own_at last q m ev ss (slice_get ss q) refl k d h
moved_at last (Tick t) ss k d h = get_or-map (ticked (max last t)) ss k d d h

own_long : (last q m : ℕ) (ev : Event) (ss : List Running) (o : Option Running) → length (own_moved o q m last ev ss) ≡ length ss
own_long last q m ev ss None = refl
own_long last q m ev ss (Some x) = length-set _ _ _

pub moved_long : (last : ℕ) (e : ShardEvent) (ss : List Running) → length (moved last e ss) ≡ length ss
unfolding moved
moved_long last (Own q m ev) ss = own_long last q m ev ss (slice_get ss q)
moved_long last (Tick t) ss = length-map ss (ticked (max last t))

set_configs : (ss : List Running) (k m last : ℕ) (ev : Event) {x : Running} → slice_get ss k ≡ Some x
    → configs_of (set ss k (stepped m last ev x)) ≡ configs_of ss
set_configs [] zero m last ev e = refl
set_configs [] (suc k) m last ev e = refl
set_configs (y ∷ ss) zero m last ev e = cc
set_configs (y ∷ ss) (suc k) m last ev e = cc (set_configs ss k m last ev e)

own_configs : (o : Option Running) (ss : List Running) (k m last : ℕ) (ev : Event) → slice_get ss k ≡ o
    → configs_of (own_moved o k m last ev ss) ≡ configs_of ss
own_configs None ss k m last ev e = refl
own_configs (Some x) ss k m last ev e = set_configs ss k m last ev e

-- an event changes no configuration
pub moved_configs : (last : ℕ) (e : ShardEvent) (ss : List Running) → configs_of (moved last e ss) ≡ configs_of ss
unfolding moved
moved_configs last (Own q m ev) ss = own_configs (slice_get ss q) ss q m last ev refl
moved_configs last (Tick t) ss = ticked_configs (max last t) ss

-- one more event of a history is an event of the sessions that it left
pub runs_more : (es : List ShardEvent) (e : ShardEvent) (cs : List SessionConfig)
    → runs (es ++ e ∷ []) cs ≡ moved (last_tick es) e (runs es cs)
runs_more es e cs =
    let c : SessionConfig = nobody.config in
    let long = runs_long 0 es cs in
    let grown = runs_long 0 (es ++ e ∷ []) cs in
    ext_get_or nobody (runs (es ++ e ∷ []) cs) (moved (last_tick es) e (runs es cs))
    (omega (arith, moved_long (last_tick es) e (runs es cs)))
    (λ k h. cc (
      runs_at 0 (es ++ e ∷ []) cs k k c nobody (omega arith) (omega arith),
      run_more k 0 es e (started (get_or cs k c)),
      runs_at 0 es cs k k c nobody (omega arith) (omega arith),
      moved_at (last_tick es) e (runs es cs) k nobody (omega arith),
    ))

-- no event changes the configuration of a session
after_config : (p last : ℕ) (e : ShardEvent) (s : Running) → (after p last e s).config ≡ s.config
after_config p last (Tick t) s = refl
after_config p last (Own q m ev) s = by (q == p)
  where
    by : (b : Bool) → (if b then stepped m last ev s else s).config ≡ s.config
    by true = refl
    by false = refl

run_config : (p last : ℕ) (es : List ShardEvent) (s : Running) → (run_from p last es s).config ≡ s.config
unfolding run_from
run_config p last [] s = refl
run_config p last (e ∷ es) s = run_config p (later last e) es (after p last e s) ∙ after_config p last e s

pub runs_configs : (p : ℕ) (es : List ShardEvent) (cs : List SessionConfig) → configs_of (runs_from p es cs) ≡ cs
unfolding runs_from
runs_configs p es [] = refl
runs_configs p es (c ∷ cs) = cc (run_config p 0 es (started c), runs_configs (p + 1) es cs)

-- the shard

history_more : (cs : List SessionConfig) (es : List ShardEvent) (e : ShardEvent) → IsHistory cs es → CanHappen cs e
    → IsHistory cs (es ++ e ∷ [])
history_more cs [] e h can = (can, tt)
history_more cs (x ∷ es) e h can = (h.0, history_more cs es e h.1 can)

-- an event leaves a shard
pub shard_more : {last limit room : ℕ} (room2 : ℕ) (entry : Entry) {ss ss2 : List Running} {j : List Entry}
    → IsShard (shard_of ss last j limit room)
    → length j < limit → later last entry.event ≤ greatest_tick → CanHappen (configs_of ss) entry.event → ss2 ≡ moved last entry.event ss
    → AllByRecursion IsSound ss2
    → IsOnTime (configs_of ss) (events_of j ++ entry.event ∷ [])
    → IsShard (shard_of ss2 (later last entry.event) (j ++ entry ∷ []) limit room2)
shard_more {last} room2 entry {ss} {ss2} {j} s below early can m sound timely =
    let es : List ShardEvent = events_of j in
    let e : ShardEvent = entry.event in
    let reported = map-append (λ x. x.event) j (entry ∷ []) in
    let cs : List SessionConfig = configs_of ss in
    let configs : configs_of ss2 ≡ cs = cc (moved_configs last e ss) in
    record {
      few = omega (arith, s.few, ap length m, moved_long last e ss);
      full = omega (arith, length-append j (entry ∷ []));
      history = rw reported (rw configs (history_more cs es e s.history can));
      clock = cc (last_more 0 es e);
      early = early;
      whole = cc (runs_more es e cs);
      sound = sound;
      timely = rw reported (rw configs timely);
    }
