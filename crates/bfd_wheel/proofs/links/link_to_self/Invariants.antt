-- The nodes so far are linked to themselves.
use Rattle.bfd_wheel.proofs.Common.{◌≡◌, ◌<◌, ℕ, next_in, prev_in}
use Rattle.bfd_wheel.proofs.links.link_to_self.Given as goal

abbrev pub invariant-loop-at : goal.invariant-loop-at
invariant-loop-at l = record {
  next : (j : ℕ) → j < l.at → next_in l.nodes j ≡ j;
  prev : (j : ℕ) → j < l.at → prev_in l.nodes j ≡ j;
}
