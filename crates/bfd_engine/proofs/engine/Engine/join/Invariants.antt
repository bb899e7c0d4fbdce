use Rattle.bfd_engine.proofs.Common.{◌≡◌, IsOf, AllThere, AreGlued}
use Rattle.bfd_engine.proofs.engine.Engine.join.Given as goal

abbrev pub invariant-loop-at : goal.invariant-loop-at
invariant-loop-at g l = record {
  of : IsOf l.self l.first.1;
  theirs_of : IsOf l.self l.other.1;
  there : AllThere l.first.1;
  number : l.first.0 ≡ 0;
  theirs : l.other.0 ≡ l.fn.other.0;
  used : l.first.2 ≡ l.initial.first.2;
  glued : AreGlued l.fn.other.0 l.at l.initial.first.1 l.fn.other.1 l.first.1 l.other.1;
}
