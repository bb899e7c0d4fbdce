use Rattle.std.proofs.Common.{arith, refl}
use Rattle.std.proofs.lemmas.Slice.Eq.{text_from_reads}
use Rattle.std.specs.Prelude.{codes}
use Rattle.bfd_script.proofs.line.words.word_named.Goals as goal

pub returns-in-reflector : goal.returns-in-reflector
returns-in-reflector c = rw (text_from_reads c.args.field.now (codes "reflector") (omega arith) (
  omega arith,
  (
    omega arith,
    (
      omega arith,
      (
        omega arith,
        (omega arith, (omega arith, (omega arith, (omega arith, (omega arith, tt))))),
      ),
    ),
  ),
)) refl
