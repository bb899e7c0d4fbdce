-- One output, and one event, more.
use Rattle.std.proofs.Common.{◌≡◌, ℕ, ◌+◌, refl, List, [], ◌∷◌, ◌++◌, length, map, append_assoc, append-nil, arith}
use Rattle.std.proofs.lemmas.List.{length-map, map-append}
use Rattle.bfd_session.specs.declared.event.SessionConfig.{SessionConfig}
use Rattle.bfd_session.specs.Alone.{Outcome}
use Rattle.bfd_session.specs.Kinds.{Running, configs_of}
use Rattle.bfd_session.specs.Step.{started}
use Rattle.bfd_session.proofs.Starting.{started_configs}
use Rattle.bfd_shard.specs.declared.entry.ShardEvent.{ShardEvent}
use Rattle.bfd_shard.specs.declared.entry.Entry.{Entry}
use Rattle.bfd_shard.specs.History.{events_of, last_tick, runs, outcome_of}
use Rattle.bfd_watch.specs.declared.change.Change.{Change}
use Rattle.bfd_watch.specs.Changes.{changes_in, changes_from, outcomes_after, history_outcomes, history_changes}
use Rattle.bfd_watch.specs.Watching.{watching}

-- an event more

outcomes_more : (configs : List SessionConfig) (past es : List ShardEvent) (e : ShardEvent) → outcomes_after configs past (es ++ e ∷ [])
    ≡ outcomes_after configs past es ++ outcome_of (last_tick (past ++ es)) e (runs (past ++ es) configs) ∷ []
unfolding outcomes_after
outcomes_more configs past [] e = cc (append-nil past)
outcomes_more configs past (x ∷ es) e = cc (outcomes_more configs (past ++ x ∷ []) es e, append_assoc past (x ∷ []) es)

pub outcomes_grow : (configs : List SessionConfig) (es : List ShardEvent) (e : ShardEvent)
    → history_outcomes configs (es ++ e ∷ []) ≡ history_outcomes configs es ++ outcome_of (last_tick es) e (runs es configs) ∷ []
outcomes_grow configs es e = outcomes_more configs [] es e

outcomes_long : (configs : List SessionConfig) (past es : List ShardEvent) → length (outcomes_after configs past es) ≡ length es
unfolding outcomes_after
outcomes_long configs past [] = refl
outcomes_long configs past (x ∷ es) = omega (arith, outcomes_long configs (past ++ x ∷ []) es)

pub from_more : (n : ℕ) (os : List Outcome) (o : Outcome)
    → changes_from n (os ++ o ∷ []) ≡ changes_from n os ++ changes_in (n + length os) o.items
unfolding changes_from
from_more n [] o = let same : n ≡ n + 0 = omega arith in cc (append-nil (changes_in n o.items))
from_more n (x ∷ os) o =
    let next : n + 1 + length os ≡ n + length (x ∷ os) = omega arith in
    cc (from_more (n + 1) os o, append_assoc (changes_in n x.items) (changes_from (n + 1) os) (changes_in (n + length (x ∷ os)) o.items))

pub changes_more : (configs : List SessionConfig) (es : List ShardEvent) (e : ShardEvent)
    → history_changes configs (es ++ e ∷ []) ≡ history_changes configs es
    ++ changes_in (length es + 1) (outcome_of (last_tick es) e (runs es configs)).items
changes_more configs es e =
    let number : 1 + length (outcomes_after configs [] es) ≡ length es + 1 = omega (arith, outcomes_long configs [] es) in
    cc (outcomes_more configs [] es e, from_more 1 (outcomes_after configs [] es) (outcome_of (last_tick es) e (runs es configs)))

-- what a watch has reported of all the entries that it took, with one more
pub whole_more : {configs configs2 : List SessionConfig} (js js2 : List Entry) (entry : Entry) {reported more : List Change}
    → configs2 ≡ configs
    → js2 ≡ js ++ entry ∷ [] → more ≡ reported ++ changes_in (length js + 1)
    (outcome_of (last_tick (events_of js)) entry.event (runs (events_of js) configs)).items
    → (before : List Change) → reported ≡ before ++ history_changes configs (events_of js)
    → more ≡ before ++ history_changes configs2 (events_of js2)
whole_more {configs} js js2 entry same grown added before so_far =
    let long = length-map js (λ x. x.event) in
    cc (
      append_assoc before (history_changes configs (events_of js))
          (changes_in (length js + 1) (outcome_of (last_tick (events_of js)) entry.event (runs (events_of js) configs)).items),
      changes_more configs (events_of js) entry.event,
      map-append (λ x. x.event) js (entry ∷ []),
    )

-- a watch at the start

pub made : (cs : List SessionConfig) {ss : List Running} {js : List Entry} (limit : ℕ) → ss ≡ map started cs → js ≡ []
    → watching (configs_of ss) js limit ≡ watching cs [] limit
made cs limit e f = cc (started_configs cs)
