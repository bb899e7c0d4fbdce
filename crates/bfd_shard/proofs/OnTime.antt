-- Every tick of a history is on time where its last event is, and all before it were.
use Rattle.bfd_shard.proofs.Common.{◌≡◌, ◌⊎◌, inl, inr, ◌++◌, ◌∷◌, [], ℕ, List, refl, subst, AllByRecursion, SessionConfig, Running}
use Rattle.bfd_shard.proofs.Common.{configs_of, IsSound, ShardEvent, Tick, events_of, last_tick, later, moved, runs, Shard, IsOnTime}
use Rattle.bfd_shard.proofs.Common.{IsOver, IsShard, NoneDue, expired, forgotten}
use Rattle.bfd_shard.proofs.Runs.{last_more, runs_more}

-- the law of expiry
abbrev pub IsLaw : Type 0
IsLaw = (configs : List SessionConfig) (events : List ShardEvent) (t : ℕ) → AllByRecursion IsSound (runs events configs)
    → forgotten (runs events configs) (runs (events ++ Tick t ∷ []) configs) ≡ expired configs events t

none_there : {A : Type 0} (before after : List A) (x : A) → [] ≡ before ++ x ∷ after → ⊥
none_there [] after x h = cc
none_there (b ∷ before) after x h = cc

-- no event, no tick
pub none_yet : (configs : List SessionConfig) → IsOnTime configs []
none_yet configs = record {
  exact = λ before after t h. absurd (none_there before after (Tick t) h);
  none_due = λ before after t h. absurd (none_there before after (Tick t) h);
}

-- an element of a list is its last one, or stands before that
last_or_before : {A : Type 0} (xs before after : List A) (last x : A) → xs ++ last ∷ [] ≡ before ++ x ∷ after
    → ((xs ≡ before) × (last ≡ x)) ⊎ ((rest : List A) × (xs ≡ before ++ x ∷ rest))
last_or_before [] [] after last x h = inl (refl, cc)
last_or_before [] (b ∷ before) after last x h = absurd (none_there before after x (cc))
last_or_before (y ∷ xs) [] after last x h = inr (xs, cc)
last_or_before {A = A} (y ∷ xs) (b ∷ before) after last x h = by (last_or_before xs before after last x (cc))
  where
    by : ((xs ≡ before) × (last ≡ x)) ⊎ ((rest : List A) × (xs ≡ before ++ x ∷ rest))
        → ((y ∷ xs ≡ b ∷ before) × (last ≡ x)) ⊎ ((rest : List A) × (y ∷ xs ≡ b ∷ (before ++ x ∷ rest)))
    by (inl same) = inl (cc, same.1)
    by (inr further) = inr (further.0, cc)

module _ (configs : List SessionConfig) (events before : List ShardEvent) (event : ShardEvent) (t : ℕ) (old : IsOnTime configs events) where
  exact_at : (event ≡ Tick t → forgotten (runs events configs) (runs (events ++ Tick t ∷ []) configs) ≡ expired configs events t)
      → ((events ≡ before) × (event ≡ Tick t)) ⊎ ((rest : List ShardEvent) × (events ≡ before ++ Tick t ∷ rest))
      → forgotten (runs before configs) (runs (before ++ Tick t ∷ []) configs) ≡ expired configs before t
  exact_at law (inl same) = rw (← same.0) (law same.1)
  exact_at law (inr further) = old.exact before further.0 t further.1

  none_due_at : (event ≡ Tick t → NoneDue (last_tick (events ++ Tick t ∷ [])) (runs (events ++ Tick t ∷ []) configs))
      → ((events ≡ before) × (event ≡ Tick t)) ⊎ ((rest : List ShardEvent) × (events ≡ before ++ Tick t ∷ rest))
      → NoneDue (last_tick (before ++ Tick t ∷ [])) (runs (before ++ Tick t ∷ []) configs)
  none_due_at over (inl same) = rw (← same.0) (over same.1)
  none_due_at over (inr further) = old.none_due before further.0 t further.1

-- after a tick of a shard nothing is due, by its history
over_at : {shard : Shard} {event : ShardEvent} {after : List Running} (t : ℕ) → IsShard shard
    → after ≡ moved shard.last event shard.sessions
    → IsOver (later shard.last event) event after → event ≡ Tick t
    → NoneDue (last_tick (events_of shard.journal ++ Tick t ∷ []))
    (runs (events_of shard.journal ++ Tick t ∷ []) (configs_of shard.sessions))
over_at {shard} {after} t s m over is =
    let es : List ShardEvent = events_of shard.journal in
    let cs : List SessionConfig = configs_of shard.sessions in
    let none = subst (λ e. IsOver (later shard.last e) e after) is over in
    let last : later shard.last (Tick t) ≡ last_tick (es ++ Tick t ∷ []) = cc (last_more 0 es (Tick t)) in
    let new : after ≡ runs (es ++ Tick t ∷ []) cs =
    cc (runs_more es (Tick t) cs) in
    rw (← last) (rw (← new) none)

-- one more event of a shard
pub on_time : IsLaw → {shard : Shard} (event : ShardEvent) {after : List Running} → IsShard shard
    → after ≡ moved shard.last event shard.sessions
    → IsOver (later shard.last event) event after → IsOnTime (configs_of shard.sessions) (events_of shard.journal ++ event ∷ [])
on_time law {shard} event s m over =
    let es : List ShardEvent = events_of shard.journal in
    let cs : List SessionConfig = configs_of shard.sessions in
    let sound : AllByRecursion IsSound (runs es cs) = rw (← s.whole) s.sound in
    record {
      exact = λ before rest t h. exact_at cs es before event t s.timely (λ _. law cs es t sound)
          (last_or_before es before rest event (Tick t) h);
      none_due = λ before rest t h. none_due_at cs es before event t s.timely (over_at t s m over)
          (last_or_before es before rest event (Tick t) h);
    }
