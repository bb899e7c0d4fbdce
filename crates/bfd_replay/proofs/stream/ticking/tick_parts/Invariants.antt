-- The shards so far had the tick, and each reported what it gave there.
use Rattle.std.proofs.Common.{◌≡◌, length}
use Rattle.bfd_engine.specs.Engines.{IsOf, AllThere}
use Rattle.bfd_replay.specs.Turning.{HaveReportedTick}
use Rattle.bfd_replay.proofs.Going.{HasTicked}
use Rattle.bfd_replay.proofs.stream.ticking.tick_parts.Given as goal

abbrev pub invariant-loop-shard : goal.invariant-loop-shard
invariant-loop-shard g l = record {
  of : IsOf l.engine l.pass.1;
  there : AllThere l.pass.1;
  room : l.outs.room ≡ l.initial.outs.room;
  ticked : HasTicked l.engine l.tick l.shard l.initial.pass l.pass;
  long : length l.parts.items ≡ l.shard;
  reported : HaveReportedTick l.engine l.number l.tick l.shard l.initial.pass l.pass l.parts.items;
}
