-- What was read, over several calls.
use Rattle.std.proofs.Common.{◌≡◌, ℕ, ◌+◌, ◌<◌, ◌≤◌, Bool, List, [], ◌++◌, length, Option, None, Some, ap, sym, ◌∙◌, arith, append_assoc, length-append}
use Rattle.std.specs.Prelude.{IfSome}
use Rattle.std.specs.Io.KnownBytes.{Consumes}
use Rattle.std.proofs.KnownBytes.{Consumes-nil, Consumes-trans}
use Rattle.bfd_script.specs.Continued.{Progress, told_with}
use Rattle.bfd_script.specs.Reading.{script_of}
use Rattle.bfdd.specs.Outside.{ConsumesAtMost}
use Rattle.bfdd.specs.Sources.{IsReadOn}

-- nothing was read
pub read_nothing : (most : ℕ) (known : Option (List ℕ)) → ConsumesAtMost most known known
read_nothing most known = ([], Consumes-nil known, omega arith)

-- one more piece was read
pub read_more : (most : ℕ) (first next last : Option (List ℕ)) (a b : List ℕ) → Consumes first next a → Consumes next last b
    → length a + length b ≤ most → ConsumesAtMost most first last
read_more most first next last a b one two fits = (a ++ b, Consumes-trans first next last a b one two, omega (arith, length-append a b))

-- .. and with it more than so many bytes
past : (most : ℕ) (first last : Option (List ℕ)) (read : List ℕ) → Consumes first last read → most < length read
    → IfSome first (λ bytes. most < length bytes)
past most None last read eats long = tt
past most (Some all) None read eats long = absurd eats
past most (Some all) (Some rest) read eats long = omega (arith, ap length eats, length-append read rest, long)

pub read_past : (most : ℕ) (first next last : Option (List ℕ)) (a b : List ℕ) → Consumes first next a → Consumes next last b
    → most < length a + length b → IfSome first (λ bytes. most < length bytes)
read_past most first next last a b one two long =
    past most first last (a ++ b) (Consumes-trans first next last a b one two) (omega (arith, length-append a b, long))

-- .. and a reader took it
pub taken_more : (live : Bool) (first next last : Option (List ℕ)) (count more : ℕ) (old new : Progress) (piece : List ℕ)
    → IsReadOn live first next count old → Consumes next last piece → length piece ≡ more
    → new.number + length new.begun ≤ old.number + length old.begun + length piece
    → ((rest : List ℕ) → told_with new rest ≡ told_with old (piece ++ rest)) → IsReadOn live first last (count + more) new
taken_more live first next last count more old new piece taken read long few told = record {
  bytes = taken.bytes ++ piece;
  read = Consumes-trans first next last taken.bytes piece taken.read read;
  long = omega (arith, length-append taken.bytes piece, taken.long, long);
  number = omega (arith, taken.number, few, long);
  told = λ rest. told rest ∙ taken.told (piece ++ rest) ∙ ap (script_of live) (sym (append_assoc taken.bytes piece rest));
}
