use Rattle.bfd_serve.proofs.Common.{IsOf, AllThere, HasRoom, IsTicking}
use Rattle.bfd_serve.proofs.timing.timer.Given as goal

abbrev pub invariant-loop-count : goal.invariant-loop-count
invariant-loop-count g l = record {
  of : IsOf l.engine l.pass.1;
  there : AllThere l.pass.1;
  room : HasRoom l.engine l.outs.room;
  ticking : IsTicking l.engine l.initial.pass l.pass (g.L.Link.observed l.initial.link) (g.L.Link.observed l.link)
      (g.T.Ticker.observed l.initial.ticker) (g.T.Ticker.observed l.ticker) l.orders l.left l.count l.lost;
}
