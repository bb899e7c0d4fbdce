use Rattle.bfd_wheel.proofs.Common.{◌≡◌, ◌⊎◌, ◌≤◌, ℕ, length, drop, slice_index, never, times, counts_due, IsWheel}
use Rattle.bfd_wheel.proofs.take.detach_all.Given as goal

-- the ids that are left are those that wait
abbrev pub invariant-loop-id : goal.invariant-loop-id
invariant-loop-id l = record {
  wheel : IsWheel (length l.initial.dues) l.now l.dues l.nodes;
  ids : (x : ℕ) → times x (drop l.id-index l.ids) ≡ counts_due l.t l.dues x;
  same_or_gone : (j : ℕ) → (slice_index l.dues j ≡ slice_index l.initial.dues j) ⊎
      ((slice_index l.dues j ≡ never) × (slice_index l.initial.dues j ≤ l.t));
}
