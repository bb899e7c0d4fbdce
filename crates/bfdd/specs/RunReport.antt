-- What a run has reported, whether or not the bytes of its source are observed.
use Rattle.std.specs.Prelude.{◌≡◌, ◌⊎◌, ℕ, List, Option, Some}
use Rattle.bfd_replay.specs.Written.{TookFront}
use Rattle.bfdd.specs.declared.job.status.Status.{Status}
use Rattle.bfdd.specs.Serving.{Edges}
use Rattle.bfdd.specs.Reports.{Reports}
use Rattle.bfdd.specs.Text.{Wanted}
use Rattle.bfdd.specs.declared.words.job.Job.{Job}
use Rattle.bfdd.specs.Status.{IsDecided, IsWrittenBy}

-- a status, and what a sink accepted, when the job had something to report
pub record IsReported (job : Job) (left right : Option (List ℕ)) (old new : Edges) (taken took : Option (List ℕ)) (before now : ℕ)
    (status : Status) : Type 0 where
  pub w : Wanted
  pub reports : Reports job left right old new w
  pub decided : IsDecided status w.status
  pub written : IsWrittenBy status taken took before now w.text

-- .. when out of memory: before anything was written, or while it was
abbrev pub IsBrokenOff : Option Job → Option (List ℕ) → Option (List ℕ) → Edges → Edges → Option (List ℕ) → Option (List ℕ) → Type 0
IsBrokenOff given left right old new taken took =
    (took ≡ taken) ⊎ ((job : Job) × (given ≡ Some job) × (w : Wanted) × Reports job left right old new w × TookFront taken took w.text)
