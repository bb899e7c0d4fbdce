-- The ticks before this one have their events.
use Rattle.std.proofs.Common.{◌≡◌, ◌-◌}
use Rattle.bfd_load.specs.Load as load
use Rattle.bfd_load.proofs.generating.events.Given as goal

abbrev pub invariant-loop-t : goal.invariant-loop-t
invariant-loop-t l = l.events.items ≡ load.events l.sessions (l.t - 1)
