-- The passes so far are joined.
use Rattle.bfd_serve.proofs.Common.{◌≡◌, ◌++◌}
use Rattle.bfd_serve.proofs.Joins.{AreTakenIn}
use Rattle.bfd_serve.proofs.passes.join_all.Given as goal

abbrev pub invariant-loop-pass : goal.invariant-loop-pass
invariant-loop-pass g l = record {
  can : (goal.iterator-loop-pass g).can_next l.pass-iterator;
  ends : (goal.iterator-loop-pass g).is_finite l.pass-iterator;
  all : l.yielded ++ l.pass-iterator.rest.items ≡ l.fn.passes.items;
  taken : AreTakenIn l.engine l.initial.first l.yielded l.first;
}
