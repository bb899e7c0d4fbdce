-- What the finish of a run shows.
use Rattle.std.specs.Prelude.{◌≡◌, ◌⊎◌, ℕ, zero, suc, ◌+◌, ◌<◌, ◌≤◌, true, false, List, [], ◌∷◌, ◌++◌, length, slice_index_or}
use Rattle.bfd_shard.specs.declared.entry.Entry.{Entry}
use Rattle.bfd_script.specs.declared.line.entries.Line.{Line}
use Rattle.bfd_edge.specs.Faults.{risen}
use Rattle.bfd_edge.specs.Links.{LinkObserved}
use Rattle.bfd_edge.specs.Tickers.{TickerObserved}
use Rattle.bfd_engine.specs.Engines.{Shards}
use Rattle.bfd_engine.specs.Calls.{Act}
use Rattle.bfd_serve.specs.declared.ending.End.{End}
use Rattle.bfd_serve.specs.declared.ending.End.TheVariants as kinds
use Rattle.bfd_serve.specs.declared.serving.Limits.{Limits}
use Rattle.bfd_serve.specs.Calls.{worker_acts}
use Rattle.bfd_serve.specs.Orders.{timer_acts}
use Rattle.bfd_serve.specs.Works.{StartsOn}
use Rattle.bfd_serve.specs.declared.run.finish.Finish.{Finish}
use Rattle.bfd_serve.specs.declared.run.finish.Finish.TheVariants.{Done, LinkFault, ClockFault, JournalFull, Turns}
use Rattle.bfd_serve.specs.Runs.{HaveRun, all_on}

module _ (engine : Shards) (histories : ℕ → List Entry) (orders : List Line) (workers : ℕ) (limits : Limits)
    (before after : ℕ → LinkObserved)
    (c d : TickerObserved) (ends : List End) (lost : ℕ)
    (run : HaveRun engine histories orders workers limits before after c d ends lost) where
  -- every link of a worker ended, the ticker ended or gave its limit of ticks, and no call of any caller is left out
  pub record IsRunDone : Type 0 where
    pub links : (number : ℕ) → 0 < number → number ≤ workers → ((after number).counts.over ≡ true)
        × ((after number).counts.receive_faults ≡ 0)
    pub ticker : (d.over ≡ true) ⊎ (d.gave ≡ risen c.gave limits.ticks)
    pub faults : d.faults ≡ c.faults
    pub timer : run.timer.did.cut ≡ []
    pub workers_are : (at : ℕ) (less : at < workers) → worker_acts engine (run.each at less).did.cut ≡ []

  -- the link of this number, a worker's, failed to receive
  pub record IsLinkFault (number : ℕ) : Type 0 where
    pub some : 0 < number
    pub few : number ≤ workers
    pub over : (after number).counts.over ≡ false
    pub faults : (after number).counts.receive_faults ≡ 1

  -- the worker of this number made its number of turns, and its link neither ended nor failed
  pub record IsTurns (number : ℕ) : Type 0 where
    pub some : 0 < number
    pub few : number ≤ workers
    pub over : (after number).counts.over ≡ false
    pub faults : (after number).counts.receive_faults ≡ 0
    pub gave : (after number).counts.gave ≡ limits.turns

  -- the first of the calls that this caller's entries lack is on the shard
  abbrev pub LacksAt : ℕ → ℕ → Type 0
  LacksAt zero shard = StartsOn shard run.timer.did.cut
  LacksAt (suc at) shard = (less : at < workers) × StartsOn shard (worker_acts engine (run.each at less).did.cut)

  -- the acts of the worker of the link at this place: what every arrival that the link gave resolves to
  abbrev pub IsAll : ℕ → List Act → Type 0
  IsAll at acts = (less : at < workers) × (acts ≡ worker_acts engine ((run.each at less).did.done ++ (run.each at less).did.cut))

  -- on the shard all callers together have more calls than this: the timer at its ticks, and each worker by all that its link gave
  pub record IsOverfull (journal shard : ℕ) : Type 0 where
    pub acts : List (List Act)
    pub long : length acts ≡ workers
    pub each : (at : ℕ) (other : List Act) → at < workers → IsAll at (slice_index_or acts at other)
    pub over : journal < all_on shard 0 (timer_acts engine orders run.timer.did.got false ∷ acts)

  -- the shard's journal is at its limit, and the first caller that didn't end well has one more call there
  pub record IsFull (journal shard : ℕ) : Type 0 where
    pub inside : shard < length engine.locks
    pub full : length (histories shard) ≡ journal
    pub caller : ℕ
    pub first : (number : ℕ) → number < caller → slice_index_or ends number kinds.Ended ≡ kinds.Ended
    pub end : slice_index_or ends caller kinds.Ended ≡ kinds.Full shard journal
    pub lacks : LacksAt caller shard
    pub over : IsOverfull journal shard

  abbrev pub IsFinishCause : ℕ → Finish → Type 0
  IsFinishCause journal Done = IsRunDone
  IsFinishCause journal (LinkFault number) = IsLinkFault number
  IsFinishCause journal ClockFault = d.faults ≡ risen c.faults 1
  IsFinishCause journal (JournalFull shard) = IsFull journal shard
  IsFinishCause journal (Turns number) = IsTurns number

  -- the run is done if every link of a worker ended, no receive and no tick failed, and no shard has more calls than a journal
  -- accepts
  abbrev pub Completes : ℕ → Finish → Type 0
  Completes journal finish =
      ((number : ℕ) → 0 < number → number ≤ workers → ((after number).counts.over ≡ true) × ((after number).counts.receive_faults ≡ 0))
      → d.faults < risen c.faults 1
      → ((shard : ℕ) → shard < length engine.locks → IsOverfull journal shard → ⊥)
      → finish ≡ Done
