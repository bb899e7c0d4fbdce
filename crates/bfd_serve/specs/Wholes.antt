-- A whole run.
use Rattle.std.specs.Prelude.{◌≡◌, ℕ, ◌≤◌, List, map, Some}
use Rattle.std.specs.List.{All}
use Rattle.bfd_shard.specs.Shard.{Shard}
use Rattle.bfd_script.specs.Reading.{Lists}
use Rattle.bfd_edge.specs.Links.{LinkObserved, IsNewLink}
use Rattle.bfd_edge.specs.Ports.{PortsObserved}
use Rattle.bfd_edge.specs.Tickers.{TickerObserved}
use Rattle.bfd_engine.specs.Engines.{Shards}
use Rattle.bfd_serve.specs.declared.ending.End.{End}
use Rattle.bfd_serve.specs.declared.serving.Limits.{Limits}
use Rattle.bfd_serve.specs.Served.{shard_history, served}
use Rattle.bfd_serve.specs.declared.run.finish.Finish.{Finish}
use Rattle.bfd_serve.specs.Finishes.{finish_from, HadMemory}
use Rattle.bfd_serve.specs.Runs.{HaveRun, IsOpened, AreClosedShards, history_at}
use Rattle.bfd_serve.specs.Causes.{IsFinishCause, Completes}
use Rattle.bfd_serve.specs.Entered.{AreTimely, AreJudged}

-- a run of a script: its engine, the link of each caller, opened by its number, from opening to shutting, what all did, and the text.
-- Each tick in a shard's history expired exactly the sessions whose Detection Time had come, and each packet in it was judged by all
-- tests
pub record HasRun (script : Lists) (shards workers journal : ℕ) (limits : Limits) (q : PortsObserved) (c d : TickerObserved)
    (states : List Shard)
    (text : List ℕ) (lost : ℕ) (finish : Finish) : Type 0 where
  pub engine : Shards
  pub opened : IsOpened engine script shards journal
  pub closed : AreClosedShards engine states
  pub timely : AreTimely engine (history_at states)
  pub judged : AreJudged engine (history_at states)
  pub text_is : text ≡ served (map shard_history states) lost
  pub before : ℕ → LinkObserved
  pub after : ℕ → LinkObserved
  pub new : (number : ℕ) → number ≤ workers → IsNewLink (before number)
  pub numbered : (number : ℕ) → number ≤ workers → (before number).number ≡ number
  pub shut : (number : ℕ) → number ≤ workers → q.shut number ≡ Some (after number)
  pub ends : List End
  pub run : HaveRun engine (history_at states) script.events workers limits before after c d ends lost
  pub plain : All HadMemory ends
  pub finish_is : finish ≡ finish_from 0 ends
  pub cause : IsFinishCause engine (history_at states) script.events workers limits before after c d ends lost run journal finish
  pub complete : Completes engine (history_at states) script.events workers limits before after c d ends lost run journal finish
