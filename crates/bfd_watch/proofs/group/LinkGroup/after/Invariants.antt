-- The members so far, each after the changes.
use Rattle.std.proofs.Common.{◌≡◌, map, take}
use Rattle.bfd_watch.specs.Groups.{member_after}
use Rattle.bfd_watch.proofs.group.LinkGroup.after.Given as goal

abbrev pub invariant-loop-member : goal.invariant-loop-member
invariant-loop-member l = l.members.items ≡ map (member_after l.changes) (take l.member-index l.self.members)
