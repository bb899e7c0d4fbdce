-- The links so far are shut.
use Rattle.bfd_serve.proofs.RunCommon.{◌≡◌, ◌≤◌, ◌+◌, ◌++◌, ◌∷◌, ℕ, length, Some, slice_index_or}
use Rattle.bfd_serve.proofs.run.linking.shut_all.Given as goal

abbrev pub invariant-loop-link : goal.invariant-loop-link
invariant-loop-link g l = record {
  can : (goal.iterator-loop-link g).can_next l.link-iterator;
  finite : (goal.iterator-loop-link g).is_finite l.link-iterator;
  all : l.yielded ++ l.link-iterator.rest.items ≡ l.fn.links.items;
  number : l.number ≡ length l.yielded + 1;
  opened : (n : ℕ) → (g.P.Ports.observed l.ports).opened n ≡ (g.P.Ports.observed l.fn.ports).opened n;
  faults : (g.P.Ports.observed l.ports).faults ≡ (g.P.Ports.observed l.fn.ports).faults;
  shut : (n : ℕ) → n ≤ length l.yielded → (g.P.Ports.observed l.ports).shut n
      ≡ Some (g.P.Link.Link.observed (slice_index_or (l.fn.own ∷ l.yielded) n l.fn.own));
}
