-- With what is left, what was appended is the same.
use Rattle.std.proofs.Common.{◌≡◌, ◌++◌, length}
use Rattle.bfdd.specs.Following.{lower, not_lower}
use Rattle.bfdd.proofs.watched_text.merging.append_lower.Given as goal

abbrev pub invariant-lower : goal.invariant-lower
invariant-lower l = record {
  appended : l.all.items ++ lower l.discr l.left ≡ l.initial.all.items ++ lower l.discr l.more;
  left : not_lower l.discr l.left ≡ not_lower l.discr l.more;
}

abbrev pub decreases-lower : goal.decreases-lower
decreases-lower l = length l.left
