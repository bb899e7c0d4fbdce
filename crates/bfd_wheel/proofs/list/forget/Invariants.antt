use Rattle.bfd_wheel.proofs.Common.{◌≡◌, ◌<◌, ◌≤◌, ℕ, get_or, due_of, without}
use Rattle.bfd_wheel.proofs.list.forget.Given as goal

abbrev pub invariant-loop-due : goal.invariant-loop-due
invariant-loop-due l = record {
  done : (k : ℕ) → k < l.due-index → due_of (get_or l.dues k 0) ≡ without l.t (due_of (get_or l.initial.dues k 0));
  rest : (k : ℕ) → l.due-index ≤ k → get_or l.dues k 0 ≡ get_or l.initial.dues k 0;
}
