use Rattle.bfd_engine.proofs.Common.{◌≡◌, ◌++◌, map, Some}
use Rattle.bfd_engine.proofs.open.apart.Given as goal

abbrev pub invariant-loop-lock : goal.invariant-loop-lock
invariant-loop-lock g l = record {
  can : (goal.iterator-loop-lock g).can_next l.lock-iterator;
  finite : (goal.iterator-loop-lock g).is_finite l.lock-iterator;
  all : l.yielded ++ l.lock-iterator.rest.items ≡ l.fn.shards.items;
  locks : l.locks.items ≡ map (λ s. s.0) l.yielded;
  passes : l.passes.items ≡ map (λ s. Some s.1) l.yielded;
  sizes : l.sizes.items ≡ map (λ s. s.2) l.yielded;
}
