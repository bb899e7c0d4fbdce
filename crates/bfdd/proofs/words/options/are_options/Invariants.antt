use Rattle.std.proofs.Common.{◌≡◌, length, map, string_bytes}
use Rattle.bfdd.specs.Options.{are_options}
use Rattle.bfdd.proofs.words.options.are_options.Given as goal

-- the words that are left decide
abbrev pub invariant-loop-rest : goal.invariant-loop-rest
invariant-loop-rest l = are_options (map (λ name. name.now) l.names) (map (λ word. string_bytes word) l.words)
    ≡ are_options (map (λ name. name.now) l.names) (map (λ word. string_bytes word) l.rest)

abbrev pub decreases-loop-rest : goal.decreases-loop-rest
decreases-loop-rest l = length l.rest
