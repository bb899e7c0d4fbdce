-- The results of `serve`, by what is observed of its outside before and after.
use Rattle.std.specs.Prelude.{◌≡◌, ◌⊎◌, ◌<◌, ◌≤◌, ℕ, true, List, length, IfSome, Option, Ok, Err}
use Rattle.std.specs.Io.KnownBytes.{Consumes, IsAtEnd}
use Rattle.bfd_edge.specs.Faults.{Rose}
use Rattle.bfd_edge.specs.Ports.{PortsObserved}
use Rattle.bfd_edge.specs.Tickers.{TickerObserved}
use Rattle.bfd_script.specs.declared.fields.fault.BadLine.{BadLine as FaultyLine}
use Rattle.bfd_script.specs.Reading.{Lists, script_of}
use Rattle.bfd_serve.specs.declared.serving.Limits.{Limits}
use Rattle.bfd_serve.specs.declared.run.finish.Finish.{Finish}
use Rattle.bfd_serve.specs.declared.run.finish.Finish.TheVariants as finish
use Rattle.bfd_serve.specs.declared.run.finish.Refused.TheVariants as refused
use Rattle.bfd_serve.specs.Linking.{IsOpenTo, IsLinkRefused}
use Rattle.bfd_serve.specs.Wholes.{HasRun}
use Rattle.bfd_shard.specs.Shard.{Shard}
use Rattle.bfdd.specs.declared.words.job.Job.{Job}
use Rattle.bfdd.specs.declared.words.job.Job.TheVariants.{Serve}
use Rattle.bfdd.specs.declared.job.serving.Numbers.{Numbers}
use Rattle.bfdd.specs.declared.job.status.Status.{Status}
use Rattle.bfdd.specs.declared.job.status.Status.TheVariants as status
use Rattle.bfdd.specs.declared.job.status.Status.TheVariants.{Done, BadLine, PortFault, LinkFault, TooLarge, JournalFull, Turns, ClockFault}
use Rattle.bfdd.specs.Sources.{IsFaulty, IsOverlong, IsRead}
use Rattle.bfdd.specs.Text.{Wanted, bare, complaint_line, ends, most_bytes}

-- the status of a run that ended so
abbrev pub status_of : Finish → Status
status_of finish.Done = Done
status_of (finish.LinkFault number) = LinkFault number
status_of finish.ClockFault = ClockFault
status_of (finish.JournalFull shard) = JournalFull shard
status_of (finish.Turns number) = Turns number

abbrev pub limits_of : ℕ → ℕ → Limits
limits_of turns ticks = record { turns = turns; ticks = ticks }

-- the job that has these numbers
abbrev pub job_by : Numbers → Job
job_by n = Serve n.hands n.turns n.ticks n.journal

-- what is observed of a run's ports and its ticker
pub record Edges : Type 0 where
  pub ports : PortsObserved
  pub ticker : TickerObserved

abbrev pub edges_of : PortsObserved → TickerObserved → Edges
edges_of ports ticker = record { ports = ports; ticker = ticker }

-- these closed shards, this text, so many lost sends and this finish are those of a run of the script by the job's numbers
abbrev pub IsRunOf : Job → Lists → Edges → Edges → List Shard → List ℕ → ℕ → Finish → Type 0
IsRunOf (Serve hands turns ticks journal) script old new states text lost end =
    IsOpenTo hands.workers old.ports new.ports
    × HasRun script hands.shards hands.workers journal (limits_of turns ticks) new.ports old.ticker new.ticker states text lost end
IsRunOf job script old new states text lost end = ⊥

-- the script was served, and this is the result: the served text of the closed shards, and the status of the finish
pub record IsServed (job : Job) (script : Lists) (old new : Edges) (w : Wanted) : Type 0 where
  pub states : List Shard
  pub lost : ℕ
  pub end : Finish
  pub run : IsRunOf job script old new states w.text lost end
  pub status : w.status ≡ status_of end

-- a port couldn't be opened, and there is no text
pub record IsPortless (old new : Edges) (w : Wanted) : Type 0 where
  pub nothing : w ≡ bare PortFault
  pub refused : IsLinkRefused refused.PortFault old.ports new.ports old.ticker new.ticker

-- the result of a script
abbrev pub Comes : Job → Lists → Edges → Edges → Wanted → Type 0
Comes job script old new w = IsServed job script old new w ⊎ IsPortless old new w

-- the result of `serve`, if it read its script
pub record HasServedScript (job : Job) (left right : Option (List ℕ)) (old new : Edges) (w : Wanted) : Type 0 where
  pub script : Lists
  pub live : IsRead true left right script
  pub comes : Comes job script old new w

-- .. and if it read none: no link was opened and no tick was asked for
pub record HasNoScript (left right : Option (List ℕ)) (old new : Edges) (w : Wanted) : Type 0 where
  pub unread : IsFaulty true left right w ⊎ IsOverlong left right w
  pub same : new ≡ old

-- if these bytes spell a script, it was served to a finish, which is the status, or memory ran out
abbrev pub IsServedToFinish : Job → Edges → Edges → Status → List ℕ → Type 0
IsServedToFinish job old new result bytes =
    length bytes ≤ most_bytes → (script : Lists) → script_of true bytes ≡ Ok script
    → (result ≡ status.Memory) ⊎ ((w : Wanted) × IsServed job script old new w × (result ≡ w.status))
