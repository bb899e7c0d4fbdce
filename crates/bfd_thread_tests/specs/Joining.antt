-- Passes of an engine's threads, as they are made, joined and closed.
use Rattle.std.specs.Prelude.{ℕ, ◌≡◌, ◌≢◌, ◌<◌, ◌++◌, List, [], ◌∷◌, length, map}
use Rattle.std.specs.List.{All}
use Rattle.bfd_turn.specs.Lists.{Begins, numbers_of}
use Rattle.bfd_shard.specs.Shard.{Shard}
use Rattle.bfd_engine.specs.Engines.{Shards, Knows, IsOf, AllThere}
use Rattle.bfd_engine.specs.Calls.{seen_at, made_at, kept_at, mine}
use Rattle.bfd_engine.specs.Passes.{AreClosed, Parted}
use Rattle.bfd_thread_tests.specs.declared.embedding.threads.Call.{Call}
use Rattle.bfd_thread_tests.specs.declared.embedding.threads.Job.{Job}
use Rattle.bfd_thread_tests.specs.Ready.{IsJobReady}

-- caller 0's pass, with no turn held; the passes with these numbers, in the order in which it made them, are left to be joined
pub record HasOpen (engine : Shards) (first : Knows) (numbers : List ℕ) : Type 0 where
  pub of : IsOf engine first.1
  pub there : AllThere first.1
  pub number : first.0 ≡ 0
  pub others : All (λ n. n ≢ 0) numbers
  pub made : (shard : ℕ) → shard < length engine.locks → made_at first shard ≡ numbers_of (kept_at first shard) ++ numbers

-- one more job, which is ready and has seen nothing. Caller 0, which knew k and then knows l, made its pass
pub record HasAdded (engine : Shards) (k l : Knows) (before after : List Job) (calls : List Call) (room : ℕ) : Type 0 where
  pub job : Job
  pub after_is : after ≡ before ++ job ∷ []
  pub ready : IsJobReady engine job
  pub parted : (shard : ℕ) → shard < length engine.locks → Parted k l job.pass shard
  pub calls_are : job.calls.items ≡ calls
  pub unseen : job.saw.items ≡ []
  pub room_is : job.room ≡ room

-- caller 0 knew k, and knows l after it has joined the passes of these jobs. It made no call of its own, and keeps each pass's
-- number and calls. What each pass has seen is a prefix of what it has seen
pub record HasJoined (engine : Shards) (k l : Knows) (jobs : List Job) : Type 0 where
  pub of : IsOf engine l.1
  pub there : AllThere l.1
  pub number : l.0 ≡ 0
  pub own : (shard : ℕ) → shard < length engine.locks → mine l shard ≡ mine k shard
  pub seen : (shard : ℕ) → shard < length engine.locks → Begins (seen_at k shard) (seen_at l shard)
  pub each : (shard : ℕ) → shard < length engine.locks → All (λ (j : Job). Begins (seen_at j.pass shard) (seen_at l shard)) jobs
  pub kept : (shard : ℕ) → shard < length engine.locks
      → kept_at l shard ≡ kept_at k shard ++ map (λ (j : Job). (j.pass.0, mine j.pass shard)) jobs
  pub made : (shard : ℕ) → shard < length engine.locks → made_at l shard ≡ made_at k shard

-- the shards of an engine that was closed after the passes of these jobs were joined
pub record HasClosed (engine : Shards) (first : Knows) (jobs : List Job) (shards : List Shard) : Type 0 where
  pub last : Knows
  pub joined : HasJoined engine first last jobs
  pub closed : AreClosed engine last shards
