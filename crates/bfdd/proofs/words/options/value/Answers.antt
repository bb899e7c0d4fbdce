use Rattle.std.proofs.Common.{string_bytes}
use Rattle.bfdd.proofs.Naming.{value_of-end}
use Rattle.bfdd.proofs.words.options.value.Goals as goal

pub returns : goal.returns
returns c = value_of-end (λ word. string_bytes word) _ _ _ _ c.in_default.len_below c.loop-rest.invariant
