use Rattle.bfd_script.proofs.Common.{arith, nat_tests, drop}
use Rattle.bfd_script.proofs.Nibbles.{encode_back, some_hex}
use Rattle.bfd_script.proofs.report.put_hex.Goals as goal

-- the digits of one more run
pub loop-before-preserved : goal.loop-before-preserved
loop-before-preserved c = (
  omega (arith, c.loop-before.invariant.0, c.put-start.ensures.start, c.in-Some.ensures.cases.2),
  omega (arith, c.loop-before.invariant.1, c.in-Some.ensures.cases.2),
  encode_back c.loop-before.rest.now _ _ _ (drop c.loop-before.start c.loop-before.room) _ _
      c.in-Some.ensures.cases.0 c.in-Some.ensures.cases.1 (cc) c.loop-before.invariant.2,
)

pub returns-clause-text : goal.returns-clause-text
returns-clause-text c = cc (some_hex c.args.bytes.now (λ none. grind (arith, nat_tests, none)))
