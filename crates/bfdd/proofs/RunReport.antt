-- What a job has to report, where its bytes decide it.
use Rattle.std.proofs.Common.{◌≡◌, ℕ, false, List, Option}
use Rattle.bfdd.specs.Serving.{Edges}
use Rattle.bfdd.specs.Reports.{Reports, ReportsBytes}
use Rattle.bfdd.specs.Text.{Wanted}
use Rattle.bfdd.specs.Words.{serves}
use Rattle.bfdd.specs.declared.words.job.Job.{Job}
use Rattle.bfdd.specs.declared.words.job.Job.TheVariants.{Serve}

-- a job that doesn't serve reports what its bytes decide
pub closed_reports : (job : Job) (left right : Option (List ℕ)) (old new : Edges) (w : Wanted) → serves job ≡ false
    → ReportsBytes job left right w
    → Reports job left right old new w
closed_reports (Serve hands turns ticks journal) left right old new w closed reports = cc
closed_reports job left right old new w closed reports = reports
