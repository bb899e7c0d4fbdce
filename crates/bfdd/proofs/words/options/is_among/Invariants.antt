use Rattle.std.proofs.Common.{◌≡◌, drop, map}
use Rattle.std.specs.List.{list_any}
use Rattle.std.specs.Str.{bytes_eq}
use Rattle.bfdd.proofs.words.options.is_among.Given as goal

-- the names that are left decide
abbrev pub invariant-loop-known : goal.invariant-loop-known
invariant-loop-known l = list_any (λ known. bytes_eq known l.name) (map (λ known. known.now) l.names)
    ≡ list_any (λ known. bytes_eq known l.name) (map (λ known. known.now) (drop l.known-index l.names))
