use Rattle.bfd_levels.proofs.Common.{◌≡◌, ◌⊎◌, ◌≤◌, ◌+◌, ℕ, length, drop, slice_index, never, times, counts_due, at_tick, loads}
use Rattle.bfd_levels.proofs.Paid.{IsPaid}
use Rattle.bfd_levels.proofs.jump.detach_all.Given as goal

-- the ids that are left are those that wait
abbrev pub invariant-loop-id : goal.invariant-loop-id
invariant-loop-id g l = record {
  paid : IsPaid (length l.initial.dues) l.steps (l.initial.steps + loads (length l.initial.dues)
      (at_tick (length l.initial.dues) l.now l.initial.dues) l.initial.dues)
      (at_tick (length l.initial.dues) l.now l.dues) l.dues l.nodes;
  ids : (x : ℕ) → times x (drop l.id-index l.ids) ≡ counts_due l.t l.dues x;
  same_or_gone : (j : ℕ) → (slice_index l.dues j ≡ slice_index l.initial.dues j) ⊎
      ((slice_index l.dues j ≡ never) × (slice_index l.initial.dues j ≤ l.t));
  counts : l.initial.steps + l.id-index ≤ l.steps;
}
