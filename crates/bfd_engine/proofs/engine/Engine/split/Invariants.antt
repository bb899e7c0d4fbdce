use Rattle.bfd_engine.proofs.Common.{◌≡◌, ◌≤◌, ◌<◌, vec_capacity, IsOf, AllThere, AreCut}
use Rattle.bfd_engine.proofs.engine.Engine.split.Given as goal

abbrev pub invariant-loop-at : goal.invariant-loop-at
invariant-loop-at g l = record {
  of : IsOf l.self l.first.1;
  there : AllThere l.first.1;
  number : l.first.0 ≡ 0;
  used : l.first.2 ≡ l.initial.first.2;
  positive : 0 < l.number;
  is : l.number ≡ l.first.2;
  room : l.at-end ≤ vec_capacity l.passes;
  cuts : AreCut l.number l.at l.initial.first.1 l.first.1 l.passes.items;
}
