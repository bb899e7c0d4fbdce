-- What the timer did.
use Rattle.std.specs.Prelude.{◌≡◌, ◌⊎◌, ℕ, ◌+◌, ◌<◌, ◌≤◌, Bool, true, false, List, [], ◌++◌, length, drop, Option, Some, None}
use Rattle.bfd_packet.specs.declared.arrival.Datagram.{Datagram}
use Rattle.bfd_shard.specs.declared.entry.Entry.{Entry}
use Rattle.bfd_script.specs.declared.line.entries.Line.{Line}
use Rattle.bfd_edge.specs.Faults.{risen}
use Rattle.bfd_edge.specs.Links.{LinkObserved}
use Rattle.bfd_edge.specs.Tickers.{Ticks, TickerObserved}
use Rattle.bfd_engine.specs.Engines.{Shards, Knows}
use Rattle.bfd_engine.specs.Calls.{Act, seen_at, met_word}
use Rattle.bfd_serve.specs.declared.ending.End.{End}
use Rattle.bfd_serve.specs.declared.ending.End.TheVariants.{Ended, LinkFault, ClockFault, Full, Turns as TurnsMade, Spent, Memory}
use Rattle.bfd_serve.specs.Works.{Did, Stops, IsAside, IsStopped, IsWhole}
use Rattle.bfd_serve.specs.Orders.{ticks_acts, orders_left, timer_acts}

-- these ticks more were given, if the ticker keeps them
abbrev pub more_given : List ℕ → Option Ticks → Option Ticks
more_given got None = None
more_given got (Some ticks) = Some (record { given = ticks.given ++ got; left = drop (length got) ticks.left })

-- why the timer ended, and what is left out of its acts and its sends; when out of memory, some of these or of its ticks are
abbrev pub IsTimerEnd : Shards → (ℕ → List Entry) → (ℕ → ℕ) → TickerObserved → TickerObserved → List ℕ → ℕ → List Act → List Datagram → End
    → Type 0
IsTimerEnd engine histories words c d got ticks cut untried Ended =
    (cut ≡ []) × (untried ≡ []) × (d.faults ≡ c.faults) × ((d.over ≡ true) ⊎ (length got ≡ ticks))
IsTimerEnd engine histories words c d got ticks cut untried ClockFault =
    (cut ≡ []) × (untried ≡ []) × (d.faults ≡ risen c.faults 1) × (d.over ≡ false)
IsTimerEnd engine histories words c d got ticks cut untried (Full shard n) =
    (d.faults ≡ c.faults) × Stops engine histories words cut untried (Full shard n)
IsTimerEnd engine histories words c d got ticks cut untried (Spent shard word) =
    (d.faults ≡ c.faults) × Stops engine histories words cut untried (Spent shard word)
IsTimerEnd engine histories words c d got ticks cut untried Memory =
    (d.faults ≡ c.faults) × ((0 < length cut + length untried) ⊎ ((length got < ticks) × (d.over ≡ false)))
IsTimerEnd engine histories words c d got ticks cut untried LinkFault = ⊥
IsTimerEnd engine histories words c d got ticks cut untried (TurnsMade n) = ⊥

abbrev pub is_clock_fault : End → Bool
is_clock_fault ClockFault = true
is_clock_fault Ended = false
is_clock_fault LinkFault = false
is_clock_fault (Full shard n) = false
is_clock_fault (TurnsMade n) = false
is_clock_fault (Spent shard word) = false
is_clock_fault Memory = false

-- what the timer did: of its acts at the ticks that its ticker gave in this run, those of `done` were done, and those of `cut`
-- were not. Only after Full, Spent or Memory can `cut` have some
pub record HasTimed (engine : Shards) (k l : Knows) (t u : LinkObserved) (c d : TickerObserved) (orders : List Line) (ticks : ℕ) (end : End)
    (lost : ℕ) : Type 0 where
  pub got : List ℕ
  pub done : List Act
  pub cut : List Act
  pub untried : List Datagram
  pub all : done ++ cut ≡ timer_acts engine orders got (is_clock_fault end)
  pub did : Did engine k l t u [] done cut untried 0 lost
  pub aside : IsAside t u
  pub given : d.ticks ≡ more_given got c.ticks
  pub gave : d.gave ≡ risen c.gave (length got)
  pub few : length got ≤ ticks
  pub ends : IsTimerEnd engine (seen_at l) (met_word l) c d got ticks cut untried end

-- the same after so many ticks, with no end, and these orders left
pub record IsTicking (engine : Shards) (k l : Knows) (t u : LinkObserved) (c d : TickerObserved) (orders left : List Line) (count : ℕ)
    (lost : ℕ) : Type 0 where
  pub got : List ℕ
  pub whole : IsWhole engine (ticks_acts engine orders got) k l t u 0 lost
  pub left_is : left ≡ orders_left orders got
  pub given : d.ticks ≡ more_given got c.ticks
  pub count_is : length got ≡ count
  pub gave : d.gave ≡ risen c.gave count
  pub no_fault : d.faults ≡ c.faults
  pub over : d.over ≡ false

-- all acts were done, or some of them
abbrev pub IsFinished : Shards → List Act → Knows → Knows → LinkObserved → LinkObserved → ℕ → ℕ → End → Type 0
IsFinished engine acts k l t u lost after end =
    ((end ≡ Ended) × IsWhole engine acts k l t u lost after) ⊎ IsStopped engine acts k l t u lost after end
