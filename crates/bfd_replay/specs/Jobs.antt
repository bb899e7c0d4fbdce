-- Workers' jobs.
use Rattle.std.specs.Prelude.{ℕ, ◌≡◌, ◌≢◌, ◌<◌, ◌≤◌, ◌==◌, ◌%◌, ◌+◌, ◌*◌, ◌++◌, List, [], length, map, if◌then◌else◌, slice_get}
use Rattle.std.specs.Prelude.{slice_index_or, Some, Result, Ok, Err}
use Rattle.bfd_turn.specs.Lists.{Begins}
use Rattle.bfd_engine.specs.declared.fault.EngineFault.{EngineFault}
use Rattle.bfd_engine.specs.Engines.{Shards, Knows, IsOf, AllThere}
use Rattle.bfd_engine.specs.Calls.{seen_at, met_word, taken_at, made_at, kept_at, mine}
use Rattle.bfd_replay.specs.declared.report.queue.Numbered.{Numbered}
use Rattle.bfd_replay.specs.Pieces.{Piece}
use Rattle.bfd_replay.specs.Working.{HasFinished, HasLeft, HasStopped, IsIdle}

-- a result, with its value seen so
abbrev pub seen_as : {A B E : Type 0} → (A → B) → Result A E → Result B E
seen_as f (Ok a) = Ok (f a)
seen_as f (Err e) = Err e

-- a worker's pass, its queues by shard, and what it reported of each shard, or why it stopped
pub record Work : Type 0 where
  pub pass : Knows
  pub queues : List (List Numbered)
  pub reported : Result (List (List Piece)) EngineFault

-- how a worker ended
abbrev pub HasEnded : Shards → List (List Numbered) → Knows → Result (List (List Piece)) EngineFault → Type 0
HasEnded engine queues l (Ok parts) = HasFinished engine queues l parts
HasEnded engine queues l (Err fault) = HasStopped engine queues l fault

-- a job before and after it was worked on
pub record HasWorkedOn (engine : Shards) (before after : Work) : Type 0 where
  pub left : HasLeft engine before.queues before.pass after.pass
  pub ended : HasEnded engine before.queues after.pass after.reported

-- what the worker at this place of so many has of a shard's queue: the shard is its own if the shard's number, divided by the
-- number of workers, leaves the place
abbrev pub own_queue : ℕ → ℕ → ℕ → List Numbered → List Numbered
own_queue workers at shard queue = if shard % workers == at then queue else []

-- its queues, of these
pub record AreOwn (workers at : ℕ) (queues own : List (List Numbered)) : Type 0 where
  pub long : length own ≡ length queues
  pub each : (shard : ℕ) → shard < length queues → slice_index_or own shard [] ≡ own_queue workers at shard (slice_index_or queues shard [])

-- caller 0's pass on a shard of a new engine, which has made passes with these numbers
pub record IsFreshAt (l : Knows) (shard : ℕ) (numbers : List ℕ) : Type 0 where
  pub seen : seen_at l shard ≡ []
  pub taken : taken_at l shard ≡ 0
  pub kept : kept_at l shard ≡ []
  pub made : made_at l shard ≡ numbers

-- the job of the worker at this place: its number is one more, and its queues are its own of these
pub record IsNewJob (engine : Shards) (queues : List (List Numbered)) (workers at : ℕ) (w : Work) : Type 0 where
  pub of : IsOf engine w.pass.1
  pub there : AllThere w.pass.1
  pub number : w.pass.0 ≡ at + 1
  pub idle : (shard : ℕ) → shard < length engine.locks → IsIdle w.pass shard
  pub own : AreOwn workers at queues w.queues

abbrev pub number_of : Work → ℕ
number_of w = w.pass.0

-- the jobs of the workers before this place
pub record AreJobs (engine : Shards) (queues : List (List Numbered)) (workers at : ℕ) (l : Knows) (works : List Work) : Type 0 where
  pub of : IsOf engine l.1
  pub there : AllThere l.1
  pub number : l.0 ≡ 0
  pub used : l.2 ≡ at
  pub long : length works ≡ at
  pub fresh : (shard : ℕ) → shard < length engine.locks → IsFreshAt l shard (map number_of works)
  pub each : (i : ℕ) (w : Work) → slice_get works i ≡ Some w → IsNewJob engine queues workers i w

-- a job that was done, as it is joined: its pass made at most so many turns of each shard
pub record IsJoining (engine : Shards) (most : ℕ) (w : Work) : Type 0 where
  pub of : IsOf engine w.pass.1
  pub there : AllThere w.pass.1
  pub number : w.pass.0 ≢ 0
  pub few : (shard : ℕ) → shard < length engine.locks → taken_at w.pass shard ≤ most

-- on a shard caller 0 knew k, and knows l after it has joined the passes of these jobs
pub record JobsAreJoined (most : ℕ) (k l : Knows) (works : List Work) (shard : ℕ) : Type 0 where
  pub own : mine l shard ≡ mine k shard
  pub kept : kept_at l shard ≡ kept_at k shard ++ map (λ w. (w.pass.0, mine w.pass shard)) works
  pub made : made_at l shard ≡ made_at k shard
  pub begins : (i : ℕ) (w : Work) → slice_get works i ≡ Some w → Begins (seen_at w.pass shard) (seen_at l shard)
  pub words : (i : ℕ) (w : Work) → slice_get works i ≡ Some w → met_word w.pass shard ≤ met_word l shard
  pub few : taken_at l shard ≤ taken_at k shard + most * length works

pub record AllJobsJoined (engine : Shards) (most : ℕ) (k l : Knows) (works : List Work) : Type 0 where
  pub of : IsOf engine l.1
  pub there : AllThere l.1
  pub number : l.0 ≡ 0
  pub each : (shard : ℕ) → shard < length engine.locks → JobsAreJoined most k l works shard
