-- The shards so far were polled.
use Rattle.bfd_engine.specs.Engines.{IsOf, AllThere}
use Rattle.bfdd.proofs.Polling.{HasPolled}
use Rattle.bfdd.proofs.watched_text.following.poll_all.Given as goal

abbrev pub invariant-loop-shard : goal.invariant-loop-shard
invariant-loop-shard g l = record {
  of : IsOf l.engine l.pass.1;
  there : AllThere l.pass.1;
  polled : HasPolled l.engine l.engine.limit l.number l.shard l.initial.pass l.pass l.initial.watches.items l.watches.items
      l.reported.items;
}
