use Rattle.std.proofs.Common.{arith, refl}
use Rattle.std.proofs.lemmas.Slice.Eq.{text_from_reads}
use Rattle.std.specs.Prelude.{codes}
use Rattle.bfd_script.proofs.line.points.role_named.Goals as goal

pub returns-in-single : goal.returns-in-single
returns-in-single c = rw (text_from_reads c.args.field.now (codes "single") (omega arith)
    (omega arith, (omega arith, (omega arith, (omega arith, (omega arith, (omega arith, tt))))))) refl
