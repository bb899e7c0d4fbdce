-- The world of a script is one group of sessions with a pool alongside.
use Rattle.bfd_instance.proofs.Common.{◌≡◌, ℕ, List, [], ◌++◌, refl, sym, ap, ◌∙◌, Option, None, Some, Out, Reflector, Running, Answer}
use Rattle.bfd_instance.proofs.Common.{Event, World, own, own_of, ticks, turned, world_of, slice_get}
use Rattle.bfd_shard.specs.declared.entry.ShardEvent.{ShardEvent}
use Rattle.bfd_shard.specs.declared.entry.ShardEvent.TheVariants.{Own, Tick}
use Rattle.bfd_shard.specs.History.{later, own_moved, own_outcome}
unfoldable use Rattle.bfd_shard.specs.History.{moved, outcome_of}
use Rattle.bfd_instance.specs.World.{Turn}

-- an event of the sessions, by the history of a shard
abbrev pub moved_turn : ShardEvent → World → Turn
moved_turn event w = record {
  world = record w { sessions = moved w.last event w.sessions; last = later w.last event };
  outcome = outcome_of w.last event w.sessions;
}

own_by : (o : Option Running) (place moment : ℕ) (event : Event) (w : World)
    → own_of o place moment event w ≡ record {
      world = record w { sessions = own_moved o place moment w.last event w.sessions };
      outcome = own_outcome o moment w.last event;
    }
own_by None place moment event w = refl
own_by (Some s) place moment event w = refl

pub own_is : (place moment : ℕ) (event : Event) (w : World) → own place moment event w ≡ moved_turn (Own place moment event) w
unfolding own moved outcome_of
own_is place moment event w = own_by (slice_get w.sessions place) place moment event w

pub ticks_is : (t : ℕ) (w : World) → ticks t w ≡ moved_turn (Tick t) w
unfolding ticks moved outcome_of
ticks_is t w = refl

-- what a call did to the sessions is a turn of their world
applied : (event : ShardEvent) (ss ss2 : List Running) (last last2 : ℕ) (none items : List Out) (answer : Answer)
    (pool : List Reflector) {turn : Turn}
    → turn ≡ moved_turn event (world_of ss pool last) → none ≡ [] → ss2 ≡ moved last event ss → last2 ≡ later last event
    → items ≡ none ++ (outcome_of last event ss).items → answer ≡ (outcome_of last event ss).answer
    → turned ss2 pool last2 items answer ≡ turn
applied event ss ss2 last last2 none items answer pool is empty made early reported said =
    let items_are : items ≡ (outcome_of last event ss).items = reported ∙ ap (λ xs. xs ++ (outcome_of last event ss).items) empty in
    rw made (rw early (rw items_are (rw said (sym is))))

-- an own event
pub own_applied : (place moment : ℕ) (event : Event) (ss ss2 : List Running) (last last2 : ℕ) (none items : List Out) (answer : Answer)
    → none ≡ []
    → ss2 ≡ moved last (Own place moment event) ss → last2 ≡ last
    → items ≡ none ++ (outcome_of last (Own place moment event) ss).items → answer ≡ (outcome_of last (Own place moment event) ss).answer
    → (pool : List Reflector) → turned ss2 pool last2 items answer ≡ own place moment event (world_of ss pool last)
own_applied place moment event ss ss2 last last2 none items answer empty made early reported said pool =
    applied (Own place moment event) ss ss2 last last2 none items answer pool (own_is place moment event (world_of ss pool last)) empty made
    early reported said

-- a tick
pub ticks_applied : (t : ℕ) (ss ss2 : List Running) (last last2 : ℕ) (none items : List Out) (answer : Answer) → none ≡ []
    → ss2 ≡ moved last (Tick t) ss → last2 ≡ later last (Tick t)
    → items ≡ none ++ (outcome_of last (Tick t) ss).items → answer ≡ (outcome_of last (Tick t) ss).answer
    → (pool : List Reflector) → turned ss2 pool last2 items answer ≡ ticks t (world_of ss pool last)
ticks_applied t ss ss2 last last2 none items answer empty made early reported said pool =
    applied (Tick t) ss ss2 last last2 none items answer pool (ticks_is t (world_of ss pool last)) empty made early reported said
