use Rattle.std.proofs.Common.{sym, ◌∙◌, ap, arith}
use Rattle.bfd_lanes.specs.Places.{lowest}
use Rattle.bfd_levels.proofs.Lowest.{lower_written, other_written, lowest_least}
use Rattle.bfd_levels.proofs.soonest.after_write.Goals as goal

pub returns-then-number-soonest : goal.returns-then-number-soonest
returns-then-number-soonest c = λ was id least inside before is. sym
    (ap lowest is ∙ lower_written was id c.args.number inside (omega arith))

pub returns-then-before-soonest : goal.returns-then-before-soonest
returns-then-before-soonest c = λ was id least inside before is.
    least ∙ sym (ap lowest is ∙ other_written was id c.args.number inside (omega arith) (λ e. absurd (omega arith)))

pub returns-else-before-soonest : goal.returns-else-before-soonest
returns-else-before-soonest c = λ was id least inside before is.
    c.first_due.ensures (omega (arith, ap lowest is, lowest_least was id c.args.number))
