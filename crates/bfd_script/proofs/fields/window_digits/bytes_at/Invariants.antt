use Rattle.bfd_script.proofs.FieldsCommon.{◌+◌, ◌-◌, ◌*◌, ◌≤◌, take}
use Rattle.bfd_script.specs.Windows.{HasBytes}
use Rattle.bfd_script.proofs.fields.window_digits.bytes_at.Given as goal

abbrev pub invariant-loop-done : goal.invariant-loop-done
invariant-loop-done l = HasBytes l.text l.from (l.from + 2 * l.done) (take l.done l.room) × (l.done ≤ 52)

abbrev pub decreases-loop-done : goal.decreases-loop-done
decreases-loop-done l = 53 - l.done
