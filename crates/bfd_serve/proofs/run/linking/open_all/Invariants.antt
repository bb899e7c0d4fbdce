-- The links so far are open.
use Rattle.bfd_serve.proofs.RunCommon.{◌≡◌, ◌≤◌, length, vec_capacity, All, IsNewLink, IsUncalled, IsOpenTo, AreTheirs}
use Rattle.bfd_serve.proofs.run.linking.open_all.Given as goal

abbrev pub invariant-loop-at : goal.invariant-loop-at
invariant-loop-at g l = record {
  opened : IsOpenTo l.at (g.P.Ports.observed l.fn.ports) (g.P.Ports.observed l.ports);
  own : IsNewLink (g.P.Link.Link.observed l.own);
  new : All (IsUncalled g.P.Link.Link.observed) l.links.items;
  long : length l.links.items ≡ l.at;
  theirs : AreTheirs g.P.Link.Link.observed l.own l.links.items;
  room : l.workers ≤ vec_capacity l.links;
}
