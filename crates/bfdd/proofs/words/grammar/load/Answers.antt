use Rattle.std.proofs.Common.{string_bytes}
use Rattle.bfdd.proofs.Leading.{load_of-short}
use Rattle.bfdd.proofs.words.grammar.load.Goals as goal

pub returns-in_default-clause-value : goal.returns-in_default-clause-value
returns-in_default-clause-value c = load_of-short (λ word. string_bytes word) _ c.in_default.len_below
