use Rattle.bfd_script.proofs.FieldsCommon.{arith}
use Rattle.std.proofs.lemmas.List.{take_more_set}
use Rattle.bfd_script.proofs.WindowDigits.{next_has}
use Rattle.bfd_script.proofs.fields.window_digits.bytes_at.Goals as goal

-- one more byte
pub loop-done-preserved : goal.loop-done-preserved
loop-done-preserved c = (
  next_has c.loop-done.invariant.0 c.in_ok-room.ensures
      (take_more_set c.loop-done.room c.loop-done.done c.in_ok-room.field-0 (omega (arith, c.if-done-ge-ROOM.false))) (omega arith),
  omega (arith, c.if-done-ge-ROOM.false),
)
