use Rattle.bfd_wheel.proofs.Common.{◌≡◌, ◌<◌, ℕ, length, next_in, prev_in}
use Rattle.bfd_wheel.proofs.links.loops.Given as goal

abbrev pub invariant-loop-at : goal.invariant-loop-at
invariant-loop-at l = record {
  size : length l.nodes.items ≡ l.at;
  next : (j : ℕ) → j < l.at → next_in l.nodes.items j ≡ j;
  prev : (j : ℕ) → j < l.at → prev_in l.nodes.items j ≡ j;
}
