use Rattle.bfd_script.proofs.Common.{arith, rules}
use Rattle.std.proofs.lemmas.Fmt.{length-decimal-le}
use Rattle.bfd_script.proofs.report.put_number.Goals as goal

pub write_digits-requires : goal.write_digits-requires
write_digits-requires c = (omega (arith, length-decimal-le 20 c.args.n (omega arith) (omega arith) c.ranges.n.fits), search rules)

pub returns-clause-least : goal.returns-clause-least
returns-clause-least c =
    omega (arith, length-decimal-le 20 c.args.n (omega arith) (omega arith) c.ranges.n.fits, c.write_digits.ensures.start)
