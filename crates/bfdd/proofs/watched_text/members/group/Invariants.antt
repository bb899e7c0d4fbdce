-- The members so far.
use Rattle.std.proofs.Common.{◌≡◌, map, take}
use Rattle.bfd_session.specs.Step.{started}
use Rattle.bfdd.specs.Members.{member_in}
use Rattle.bfdd.proofs.watched_text.members.group.Given as goal

abbrev pub invariant-loop-discr : goal.invariant-loop-discr
invariant-loop-discr l = l.list.items ≡ map (member_in (map started l.configs)) (take l.discr-index l.members)
