-- What a run of workers and a timer did.
use Rattle.std.specs.Prelude.{◌≡◌, ℕ, ◌+◌, ◌*◌, ◌<◌, ◌≤◌, List, [], ◌∷◌, ◌++◌, length, Some, slice_get, slice_index_or}
use Rattle.std.specs.List.{sum}
use Rattle.bfd_packet.specs.declared.arrival.Arrival.{Arrival}
use Rattle.bfd_packet.specs.declared.arrival.Datagram.{Datagram}
use Rattle.bfd_shard.specs.declared.entry.Entry.{Entry}
use Rattle.bfd_script.specs.declared.line.entries.Line.{Line}
use Rattle.bfd_turn.specs.Lists.{numbers_of}
use Rattle.bfd_edge.specs.Faults.{risen}
use Rattle.bfd_edge.specs.Links.{LinkObserved, more_traffic}
use Rattle.bfd_edge.specs.Tickers.{TickerObserved}
use Rattle.bfd_engine.specs.Engines.{Shards, Knows, IsOf, AllThere}
use Rattle.bfd_engine.specs.Calls.{Act, seen_at, met_word, taken_at, kept_at, made_at, mine}
use Rattle.bfd_serve.specs.declared.ending.End.{End}
use Rattle.bfd_serve.specs.declared.serving.Limits.{Limits}
use Rattle.bfd_serve.specs.Calls.{calls_of, entries, sends_of_acts, Lacks, worker_acts}
use Rattle.bfd_serve.specs.Works.{IsAside, IsWorkerEnd}
use Rattle.bfd_serve.specs.Orders.{timer_acts}
use Rattle.bfd_serve.specs.Ticks.{IsTimerEnd, is_clock_fault, more_given, HasTimed}

-- the timer, with what each call requires of a pass
pub record IsTended (engine : Shards) (k l : Knows) (t u : LinkObserved) (c d : TickerObserved) (orders : List Line) (ticks : ℕ) (end : End)
    (lost : ℕ) : Type 0 where
  pub of : IsOf engine l.1
  pub there : AllThere l.1
  pub timed : HasTimed engine k l t u c d orders ticks end lost

-- what a caller's acts `done` left on each shard, when in the end the shards have these histories: its own entries there are
-- exactly those of their calls. Their packets were sent in order on its link, except those that failed and the last ones, which weren't
-- tried. In the end it has the same link
pub record HasDone (engine : Shards) (caller : ℕ) (own histories : ℕ → List Entry) (t u : LinkObserved) (heard : List (ℕ × Arrival))
    (done : List Act) (untried : List Datagram) (lost : ℕ) : Type 0 where
  pub gains : (shard : ℕ) → own shard ≡ entries caller shard (calls_of done)
  pub tried : List Datagram
  pub kept : List Datagram
  pub missing : ℕ
  pub sends_are : sends_of_acts engine caller histories (λ shard. 0) [] done ≡ tried ++ untried
  pub lacks : Lacks tried kept missing
  pub same_link : u.number ≡ t.number
  pub traffic : u.traffic ≡ more_traffic heard kept t.traffic
  pub send_faults : u.counts.send_faults ≡ risen t.counts.send_faults missing
  pub lost_is : lost ≡ risen 0 missing

-- what a worker did: of the arrivals that its link gave, those of `done` were handled, and those of `cut` were not. The link gave
-- `turned` answers, of which some may be Quiet
pub record WorkerDid (engine : Shards) (caller : ℕ) (own histories : ℕ → List Entry) (words : ℕ → ℕ) (t u : LinkObserved) (turns : ℕ)
    (end : End) (lost : ℕ) : Type 0 where
  pub done : List (ℕ × Arrival)
  pub cut : List (ℕ × Arrival)
  pub untried : List Datagram
  pub did : HasDone engine caller own histories t u (done ++ cut) (worker_acts engine done) untried lost
  pub turned : ℕ
  pub ends : IsWorkerEnd engine histories words t u turned turns (worker_acts engine cut) untried end
  pub gave : u.counts.gave ≡ risen t.counts.gave turned
  pub each : length (done ++ cut) ≤ turned
  pub few : turned ≤ turns

-- what the timer did: of all that it had to do at the ticks that its ticker gave, the acts of `done` were done, and those of
-- `cut` were not
pub record TimerDid (engine : Shards) (own histories : ℕ → List Entry) (words : ℕ → ℕ) (t u : LinkObserved) (c d : TickerObserved)
    (orders : List Line) (ticks : ℕ) (end : End) (lost : ℕ) : Type 0 where
  pub got : List ℕ
  pub done : List Act
  pub cut : List Act
  pub untried : List Datagram
  pub all : done ++ cut ≡ timer_acts engine orders got (is_clock_fault end)
  pub did : HasDone engine 0 own histories t u [] done untried lost
  pub aside : IsAside t u
  pub given : d.ticks ≡ more_given got c.ticks
  pub gave : d.gave ≡ risen c.gave (length got)
  pub few : length got ≤ ticks
  pub ends : IsTimerEnd engine histories words c d got ticks cut untried end

module _ {L : Type 0} (observed : L → LinkObserved) (engine : Shards) where
  -- what the worker of the link at this place did: its caller's number is one more, and its own entries on each shard are the
  -- calls that the pass l of caller 0 keeps of it
  pub record IsServedBy (l : Knows) (turns at : ℕ) (link back : L) (end : End) (lost : ℕ) : Type 0 where
    pub own : ℕ → List Entry
    pub kept : (shard : ℕ) → shard < length engine.locks → slice_get (kept_at l shard) at ≡ Some (at + 1, own shard)
    pub worked : WorkerDid engine (at + 1) own (seen_at l) (met_word l) (observed link) (observed back) turns end lost

  -- what all did, by the pass l of caller 0 in the end: its own calls are the timer's, and it keeps the calls of each worker and
  -- of nobody else. Every pass that was made was joined
  pub record HasServed (l : Knows) (t u : LinkObserved) (c d : TickerObserved) (orders : List Line) (limits : Limits) (links back : List L)
      (ends : List End) (lost : ℕ) : Type 0 where
    pub own : ℕ → List Entry
    pub own_is : (shard : ℕ) → shard < length engine.locks → mine l shard ≡ own shard
    pub timer_end : End
    pub timer_lost : ℕ
    pub timed : TimerDid engine own (seen_at l) (met_word l) t u c d orders limits.ticks timer_end timer_lost
    pub worker_ends : List End
    pub worker_losts : List ℕ
    pub ends_are : ends ≡ timer_end ∷ worker_ends
    pub lost_is : lost ≡ risen 0 (timer_lost + sum worker_losts)
    pub back_long : length back ≡ length links
    pub ends_long : length worker_ends ≡ length links
    pub losts_long : length worker_losts ≡ length links
    pub kept_long : (shard : ℕ) → shard < length engine.locks → length (kept_at l shard) ≡ length links
    pub made : (shard : ℕ) → shard < length engine.locks → made_at l shard ≡ numbers_of (kept_at l shard)
    pub workers : (at : ℕ) (link : L) (end : End) (missing : ℕ) → at < length links
        → IsServedBy l limits.turns at (slice_index_or links at link) (slice_index_or back at link) (slice_index_or worker_ends at end)
        (slice_index_or worker_losts at missing)
    pub taken : (shard : ℕ) → shard < length engine.locks → taken_at l shard ≤ (limits.ticks + length orders) + length links * limits.turns
