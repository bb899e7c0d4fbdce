-- The result of writing an answer: the status, what the sink accepted, and its count of faults.
use Rattle.std.specs.Prelude.{◌≡◌, ◌≢◌, ◌⊎◌, ℕ, List, [], Option}
use Rattle.std.specs.Io.KnownBytes.{Appends}
use Rattle.bfd_edge.specs.Faults.{Rose}
use Rattle.bfdd.specs.declared.job.status.Status.{Status}
use Rattle.bfdd.specs.declared.job.status.Status.TheVariants.{Done, WriteFault, Memory}
use Rattle.bfd_replay.specs.Written.{TookFront}
use Rattle.bfdd.specs.Text.{Wanted}

-- the status if the sink failed: every status but Done stays as it was
abbrev pub broken_off : Status → Status
broken_off Done = WriteFault
broken_off status = status

-- there was nothing to write
pub record WritesNothing (w : Wanted) (result : Status) (old new : Option (List ℕ)) (before now : ℕ) : Type 0 where
  pub nothing : w.text ≡ []
  pub status : result ≡ w.status
  pub same : new ≡ old
  pub calm : now ≡ before

-- a text was written whole
pub record WritesAll (w : Wanted) (result : Status) (old new : Option (List ℕ)) (before now : ℕ) : Type 0 where
  pub something : w.text ≢ []
  pub status : result ≡ w.status
  pub whole : Appends old new w.text
  pub calm : now ≡ before

-- the sink failed under a text
pub record BreaksOff (w : Wanted) (result : Status) (old new : Option (List ℕ)) (before now : ℕ) : Type 0 where
  pub something : w.text ≢ []
  pub status : result ≡ broken_off w.status
  pub front : TookFront old new w.text
  pub rose : Rose before now

-- memory ran out
pub record LacksMemory (w : Wanted) (result : Status) (old new : Option (List ℕ)) (before now : ℕ) : Type 0 where
  pub status : result ≡ Memory
  pub front : TookFront old new w.text
  pub calm : now ≡ before

-- the four results
abbrev pub Writes : Wanted → Status → Option (List ℕ) → Option (List ℕ) → ℕ → ℕ → Type 0
Writes w result old new before now =
    (WritesNothing w result old new before now ⊎ WritesAll w result old new before now)
    ⊎ (BreaksOff w result old new before now ⊎ LacksMemory w result old new before now)
