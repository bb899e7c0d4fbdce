-- The members so far name sessions.
use Rattle.std.proofs.Common.{◌≡◌, drop}
use Rattle.bfdd.specs.Members.{first_unknown}
use Rattle.bfdd.proofs.watched_text.members.first_unknown.Given as goal

abbrev pub invariant-loop-discr : goal.invariant-loop-discr
invariant-loop-discr l = first_unknown (drop l.discr-index l.members) l.configs ≡ first_unknown l.members l.configs
