-- The changes that are left make of the member what all of them make of the first.
use Rattle.std.proofs.Common.{◌≡◌, drop}
use Rattle.bfd_watch.specs.Groups.{member_after}
use Rattle.bfd_watch.proofs.group.Member.after.Given as goal

abbrev pub invariant-loop-change : goal.invariant-loop-change
invariant-loop-change l = member_after (drop l.change-index l.changes) l.member ≡ member_after l.changes l.fn.self
