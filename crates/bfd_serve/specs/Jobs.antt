-- A worker's job before and after.
use Rattle.std.specs.Prelude.{◌≡◌, ℕ, false}
use Rattle.bfd_edge.specs.Links.{LinkObserved}
use Rattle.bfd_engine.specs.Engines.{Shards, Knows, IsOf, AllThere}
use Rattle.bfd_serve.specs.declared.ending.End.{End}
use Rattle.bfd_serve.specs.declared.jobs.Job.{Job}
use Rattle.bfd_serve.specs.Works.{HasWorked}

module _ {L : Type 0} where
  abbrev pub pass_of : Job L → Knows
  pass_of job = job.pass

  abbrev pub link_of : Job L → L
  link_of job = job.link

  abbrev pub end_of_job : Job L → End
  end_of_job job = job.end

  abbrev pub lost_of : Job L → ℕ
  lost_of job = job.lost

module _ {L : Type 0} (observed : L → LinkObserved) where
  -- the link hasn't answered Ended
  abbrev pub IsOpen : L → Type 0
  IsOpen link = (observed link).counts.over ≡ false

  module _ (engine : Shards) where
    -- what a worker requires of its job
    pub record IsReady (job : Job L) : Type 0 where
      pub of : IsOf engine job.pass.1
      pub there : AllThere job.pass.1
      pub open_is : IsOpen job.link

    -- the job after its work
    pub record IsWorked (turns : ℕ) (before after : Job L) : Type 0 where
      pub of : IsOf engine after.pass.1
      pub there : AllThere after.pass.1
      pub worked : HasWorked engine before.pass after.pass (observed before.link) (observed after.link) turns after.end after.lost
