use Rattle.bfd_serve.proofs.Common.{◌≤◌, IsOf, AllThere, IsWorking}
use Rattle.bfd_serve.proofs.working.worker.Given as goal

abbrev pub invariant-loop-turn : goal.invariant-loop-turn
invariant-loop-turn g l = record {
  of : IsOf l.engine l.pass.1;
  there : AllThere l.pass.1;
  room : 5 ≤ l.outs.room;
  working : IsWorking l.engine l.initial.pass l.pass (g.L.Link.observed l.initial.link) (g.L.Link.observed l.link) l.turn l.lost;
}
