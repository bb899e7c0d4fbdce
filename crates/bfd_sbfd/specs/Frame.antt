-- How one rule that may change the state or an interval changes an initiator.
use Rattle.std.specs.Prelude.{ℕ}
use Rattle.bfd_rules.specs.declared.variables.Vars.{Vars}
use Rattle.bfd_rules.specs.Quantities.{adv_tx}
use Rattle.bfd_rules.specs.EventFrame.{Course, changes}

-- without Poll Sequences the advertised interval is used immediately
abbrev pub in_use : Vars → Vars
in_use v = record v { used_tx = adv_tx v }

-- the rule changes the variables to v, and a new state is reported
unfoldable pub moves : ℕ → Vars → Course → Course
moves discr v s = changes discr (in_use v) s
