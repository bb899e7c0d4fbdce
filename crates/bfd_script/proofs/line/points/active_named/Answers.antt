use Rattle.std.proofs.Common.{arith, refl}
use Rattle.std.proofs.lemmas.Slice.Eq.{text_from_reads}
use Rattle.std.specs.Prelude.{codes}
use Rattle.bfd_script.proofs.line.points.active_named.Goals as goal

pub returns-in-active : goal.returns-in-active
returns-in-active c = rw (text_from_reads c.args.field.now (codes "active") (omega arith)
    (omega arith, (omega arith, (omega arith, (omega arith, (omega arith, (omega arith, tt))))))) refl

pub returns-in-passive : goal.returns-in-passive
returns-in-passive c = rw (text_from_reads c.args.field.now (codes "passive") (omega arith)
    (omega arith, (omega arith, (omega arith, (omega arith, (omega arith, (omega arith, (omega arith, tt)))))))) refl
