use Rattle.bfd_serve.proofs.Common.{◌≡◌, IsOf, AllThere, advances, IsWhole}
use Rattle.bfd_serve.proofs.timing.advance_all.Given as goal

abbrev pub invariant-loop-shard : goal.invariant-loop-shard
invariant-loop-shard g l = record {
  of : IsOf l.engine l.pass.1;
  there : AllThere l.pass.1;
  room : l.outs.room ≡ l.initial.outs.room;
  whole : IsWhole l.engine (advances l.shard l.tick) l.initial.pass l.pass (g.L.Link.observed l.initial.link) (g.L.Link.observed l.link)
      l.initial.lost l.lost;
}
