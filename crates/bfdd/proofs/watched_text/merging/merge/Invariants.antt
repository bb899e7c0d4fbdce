-- With what is left of both, it is all.
use Rattle.std.proofs.Common.{◌≡◌, ◌++◌, drop}
use Rattle.bfdd.specs.Following.{merged}
use Rattle.bfdd.proofs.watched_text.merging.merge.Given as goal

abbrev pub invariant-loop-change : goal.invariant-loop-change
invariant-loop-change l = l.all.items ++ merged (drop l.change-index l.changes) l.left ≡ merged l.changes l.more
