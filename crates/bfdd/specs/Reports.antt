-- What a job must report, whether or not the bytes of its source are observed.
use Rattle.std.specs.Prelude.{◌≡◌, ◌⊎◌, ◌≤◌, ℕ, true, List, length, Option, Some}
use Rattle.std.specs.Io.KnownBytes.{Consumes, IsAtEnd}
use Rattle.bfdd.specs.declared.words.job.Job.{Job}
use Rattle.bfdd.specs.declared.words.job.Job.TheVariants.{Serve}
use Rattle.bfdd.specs.Serving.{Edges, HasNoScript, HasServedScript}
use Rattle.bfdd.specs.Sources.{IsOverlong}
use Rattle.bfdd.specs.Text.{Wanted, answer_to, most_bytes}
use Rattle.bfdd.specs.Words.{reads}

-- some bytes require this result; a job that reads has read them from the source, to its end
pub record IsSpelled (job : Job) (left right : Option (List ℕ)) (w : Wanted) : Type 0 where
  pub bytes : List ℕ
  pub read : reads job ≡ true → Consumes left right bytes
  pub end : reads job ≡ true → IsAtEnd right
  pub few : length bytes ≤ most_bytes
  pub spelled : answer_to job bytes ≡ Some w

-- what a job must report, if its bytes alone decide it
abbrev pub ReportsBytes : Job → Option (List ℕ) → Option (List ℕ) → Wanted → Type 0
ReportsBytes job left right w = IsSpelled job left right w ⊎ ((reads job ≡ true) × IsOverlong left right w)

-- what a job must report
abbrev pub Reports : Job → Option (List ℕ) → Option (List ℕ) → Edges → Edges → Wanted → Type 0
Reports (Serve hands turns ticks journal) left right old new w =
    HasServedScript (Serve hands turns ticks journal) left right old new w ⊎ HasNoScript left right old new w
Reports job left right old new w = ReportsBytes job left right w
