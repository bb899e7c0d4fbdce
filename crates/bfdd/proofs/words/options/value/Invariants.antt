use Rattle.std.proofs.Common.{◌≡◌, ◌++◌, length, map, option_map, option_to_list, string_bytes}
use Rattle.bfdd.specs.Options.{values_of}
use Rattle.bfdd.proofs.words.options.value.Given as goal

-- the value found so far, and those of the words that are left
abbrev pub invariant-loop-rest : goal.invariant-loop-rest
invariant-loop-rest l = values_of l.name (map (λ word. string_bytes word) l.options)
    ≡ option_to_list (option_map (λ word. word.now) l.found) ++ values_of l.name (map (λ word. string_bytes word) l.rest)

abbrev pub decreases-loop-rest : goal.decreases-loop-rest
decreases-loop-rest l = length l.rest
