-- Jobs of an engine's threads, before they are done.
use Rattle.std.specs.Prelude.{ℕ, ◌≤◌, ◌+◌, ◌*◌, length}
use Rattle.bfd_engine.specs.Engines.{Shards, IsOf, AllThere, configs_at}
use Rattle.bfd_thread_tests.specs.declared.embedding.threads.Job.{Job}

-- a job whose pass is one of the engine, with no turn held, and which has room for what any call may emit
pub record IsJobReady (engine : Shards) (job : Job) : Type 0 where
  pub of : IsOf engine job.pass.1
  pub there : AllThere job.pass.1
  pub room : (shard : ℕ) → 5 * length (configs_at engine shard) + 5 ≤ job.room

-- the number of its caller
abbrev pub number_of : Job → ℕ
number_of job = job.pass.0
