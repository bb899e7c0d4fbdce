-- The shards so far had the tick.
use Rattle.std.proofs.Common.{◌≡◌}
use Rattle.bfd_session.specs.Alone.{Outcome}
use Rattle.bfd_shard.specs.declared.entry.ShardEvent.TheVariants.{Tick}
use Rattle.bfd_engine.specs.Calls.{seen_at}
use Rattle.bfd_engine.specs.Engines.{IsOf, AllThere, configs_at}
use Rattle.bfd_engine.specs.Turned.{given_after}
use Rattle.bfd_replay.specs.Working.{IsSole}
use Rattle.bfd_replay.proofs.Going.{HasTicked}
use Rattle.bfd_replay.proofs.stream.turning.tick.Given as goal

abbrev pub invariant-loop-shard : goal.invariant-loop-shard
invariant-loop-shard g l = record {
  of : IsOf l.engine l.pass.1;
  there : AllThere l.pass.1;
  room : l.outs.room ≡ l.initial.outs.room;
  ticked : HasTicked l.engine l.tick l.shard l.initial.pass l.pass;
  gave : l.shard ≡ 1 → IsSole 0 (seen_at l.pass 0)
      → (let o : Outcome = record { items = l.outs.items; answer = l.answer } in o)
      ≡ given_after (configs_at l.engine 0) (seen_at l.initial.pass 0) (Tick l.tick);
}
