use Rattle.bfd_engine.proofs.Common.{◌≡◌, ◌++◌, map, Ok}
use Rattle.bfd_engine.proofs.beside.all_there.Given as goal

abbrev pub invariant-loop-one : goal.invariant-loop-one
invariant-loop-one g l = record {
  can : (goal.iterator-loop-one g).can_next l.one-iterator;
  finite : (goal.iterator-loop-one g).is_finite l.one-iterator;
  all : map Ok l.all.items ++ l.one-iterator.rest.items ≡ l.fn.made.items;
}
