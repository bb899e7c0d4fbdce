use Rattle.std.proofs.Common.{◌≡◌, ◌<◌, ◌≤◌, ℕ, length}
use Rattle.bfd_wheel.specs.Wheel.{next_in}
use Rattle.bfd_levels.specs.Lists.{slot}
use Rattle.bfd_levels.proofs.soonest.first_near.Given as goal

-- the lists of the ticks so far are empty
abbrev pub invariant-loop-tick : goal.invariant-loop-tick
invariant-loop-tick l = (k : ℕ) → l.now < k → l.from ≤ k → k < l.tick
    → next_in l.nodes (slot (length l.dues) k 0) ≡ slot (length l.dues) k 0
