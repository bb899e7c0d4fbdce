-- What the words of the command line ask for.
use Rattle.std.specs.Prelude.{Bool, true, false, Option, Some, None}
use Rattle.bfdd.specs.declared.words.job.Job.{Job}
use Rattle.bfdd.specs.declared.words.job.Job.TheVariants.{Replay, Serve, Watch}

-- the job runs with packets and ticks from outside
abbrev pub serves : Job → Bool
serves (Serve hands turns ticks journal) = true
serves job = false

-- the job reads the source
abbrev pub reads : Job → Bool
reads (Replay hands) = true
reads (Watch need members shards) = true
reads (Serve hands turns ticks journal) = true
reads job = false

-- the job watches a link group
abbrev pub watches : Job → Bool
watches (Watch need members shards) = true
watches job = false

-- a job is asked for, and it serves
abbrev pub is_serving : Option Job → Bool
is_serving (Some job) = serves job
is_serving None = false

-- a job is asked for, and it reads the source
abbrev pub is_reading : Option Job → Bool
is_reading (Some job) = reads job
is_reading None = false

-- a job is asked for, and it watches
abbrev pub is_watching : Option Job → Bool
is_watching (Some job) = watches job
is_watching None = false

-- a fact about the job that is asked for, if it serves
abbrev pub OfServing : Option Job → (Job → Type 0) → Type 0
OfServing (Some (Serve hands turns ticks journal)) P = P (Serve hands turns ticks journal)
OfServing job P = Unit {0}
