use Rattle.std.proofs.Common.{◌≡◌, length}
use Rattle.bfdd.specs.Grammar.{are_distinct}
use Rattle.bfdd.proofs.words.grammar.are_distinct.Given as goal

-- the numbers that are left decide
abbrev pub invariant-loop-rest : goal.invariant-loop-rest
invariant-loop-rest l = are_distinct l.numbers ≡ are_distinct l.rest

abbrev pub decreases-loop-rest : goal.decreases-loop-rest
decreases-loop-rest l = length l.rest
