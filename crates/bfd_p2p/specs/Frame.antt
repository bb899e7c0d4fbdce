-- How one rule changes a point-to-point session: its new variables are renewed, and a new state is reported.
use Rattle.std.specs.Prelude.{ℕ}
use Rattle.bfd_rules.specs.declared.variables.Vars.{Vars}
use Rattle.bfd_rules.specs.EventFrame.{Course, changes}
use Rattle.bfd_rules.specs.Renewal.{renewed}

-- a rule that keeps the state changes the variables to v
unfoldable pub renews : ℕ → Vars → Course → Course
renews eff v s = record s { vars = renewed eff s.vars v }

-- a rule that may change the state changes the variables to v
unfoldable pub moves : ℕ → ℕ → Vars → Course → Course
moves discr eff v s = changes discr (renewed eff s.vars v) s
