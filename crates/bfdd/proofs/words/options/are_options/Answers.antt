use Rattle.std.proofs.Common.{string_bytes}
use Rattle.bfdd.proofs.Naming.{are_options-end}
use Rattle.bfdd.proofs.words.options.are_options.Goals as goal

pub returns : goal.returns
returns c = cc (are_options-end (λ word. string_bytes word) _ _ c.in_default.len_below)
