use Rattle.std.proofs.Common.{sym, ◌∙◌, arith}
use Rattle.bfd_levels.proofs.Lowest.{none_taken, left_later}
use Rattle.bfd_levels.proofs.soonest.after_advance.Goals as goal

pub returns-then-t-soonest : goal.returns-then-t-soonest
returns-then-t-soonest c = λ was least same. least ∙ sym (none_taken c.args.t was c.args.dues.now c.requires.t (omega arith) same)

pub returns-else-t-soonest : goal.returns-else-t-soonest
returns-else-t-soonest c = λ was least same. c.first_due.ensures (omega (arith, left_later c.args.t was c.args.dues.now c.requires.t same))
