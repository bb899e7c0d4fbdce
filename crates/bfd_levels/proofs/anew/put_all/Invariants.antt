-- The ids so far are on their lists.
use Rattle.bfd_levels.proofs.Common.{length, IsLevels}
use Rattle.bfd_wheel.specs.Wheel.{first_dues}
use Rattle.bfd_levels.proofs.anew.put_all.Given as goal

abbrev pub invariant-loop-id : goal.invariant-loop-id
invariant-loop-id l = IsLevels (length l.dues) l.now (first_dues l.dues l.id) l.nodes
