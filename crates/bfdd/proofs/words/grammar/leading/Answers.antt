use Rattle.std.proofs.Common.{string_bytes, ap, ◌∙◌, arith}
use Rattle.std.proofs.lemmas.Bool.Decides.{nat_tests}
use Rattle.std.proofs.lemmas.Grind.{common_steps}
use Rattle.bfdd.specs.Grammar.{member_of}
use Rattle.bfdd.proofs.Leading.{leading-more, leading-many}
use Rattle.bfdd.proofs.words.grammar.leading.Goals as goal

pub returns-then-is_full-clause-many : goal.returns-then-is_full-clause-many
returns-then-is_full-clause-many c = λ none. leading-many (λ word. string_bytes word) _ _
    c.loop-word-test.true c.word-item.is (c.in-Some.ensures.value ∙ ap member_of c.deref.ensures) c.loop-word.invariant.members
    (grind (arith, nat_tests, common_steps))

pub loop-word-preserved : goal.loop-word-preserved
loop-word-preserved c = record {
  members = rw c.push.ensures.items (leading-more (λ word. string_bytes word) _ _ c.loop-word-test.true c.word-item.is
      (cc (c.in-Some.ensures.value)) c.loop-word.invariant.members);
  few = grind (arith, nat_tests, common_steps);
  count = grind (arith, common_steps);
  positive = grind (arith, common_steps);
}
