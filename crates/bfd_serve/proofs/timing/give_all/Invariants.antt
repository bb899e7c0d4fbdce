use Rattle.bfd_serve.proofs.Common.{◌≡◌, take, IsOf, AllThere, orders_acts, IsWhole}
use Rattle.bfd_serve.proofs.timing.give_all.Given as goal

abbrev pub invariant-loop-at : goal.invariant-loop-at
invariant-loop-at g l = record {
  of : IsOf l.engine l.pass.1;
  there : AllThere l.pass.1;
  room : l.outs.room ≡ l.initial.outs.room;
  whole : IsWhole l.engine (orders_acts l.engine (take l.at l.orders)) l.initial.pass l.pass (g.L.Link.observed l.initial.link)
      (g.L.Link.observed l.link) l.initial.lost l.lost;
}
