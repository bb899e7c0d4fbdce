use Rattle.bfd_script.proofs.Common.{arith, sym, ap, drop, ◌++◌, nat_tests, nil_from_length}
use Rattle.hex.specs.Hex.{encode_lower, encode_with}
use Rattle.bfd_script.proofs.report.put_few.Goals as goal

pub returns-then-is_empty-clause-text : goal.returns-then-is_empty-clause-text
unfolding encode_with
returns-then-is_empty-clause-text c =
    sym (ap (λ bytes. encode_lower bytes ++ drop c.args.at c.args.room.now) (nil_from_length c.args.bytes.now
    (grind (arith, nat_tests, c.is_empty.ensures, c.if-is_empty.true))))
