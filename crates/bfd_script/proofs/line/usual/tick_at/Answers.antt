use Rattle.bfd_script.proofs.FieldsCommon.{arith}
use Rattle.bfd_script.proofs.Usual.{tick_begins}
use Rattle.bfd_script.proofs.line.usual.tick_at.Goals as goal

pub returns-clause-begins : goal.returns-clause-begins
returns-clause-begins c = rw c.in_ok-tick.ensures.value (tick_begins (omega (arith, c.told-text)) c.if-text-ne116.false c.if-text-ne105.false
    c.if-text-ne99.false c.if-text-ne107.false c.if-text-ne32.false c.in_ok-n.ensures.says (omega (arith, c.in_ok-n.ensures.near)))
