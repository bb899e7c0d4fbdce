-- The changes so far.
use Rattle.std.proofs.Common.{◌≡◌, map, take}
use Rattle.bfdd.specs.Following.{of_event}
use Rattle.bfdd.proofs.watched_text.merging.renumbered.Given as goal

abbrev pub invariant-loop-change : goal.invariant-loop-change
invariant-loop-change l = l.list.items ≡ map (of_event l.number) (take l.change-index l.changes)
