use Rattle.bfd_script.proofs.FieldsCommon.{◌≡◌, ◌≤◌, ◌-◌, drop, length, list_all, is_printable}
use Rattle.bfd_script.proofs.fields.fields.is_all_printable.Given as goal

-- the runs so far may stand in a line, so it depends on what is left, the end of the line
abbrev pub invariant-loop-run : goal.invariant-loop-run
invariant-loop-run l = (list_all is_printable l.rest ≡ list_all is_printable l.line) × (length l.rest ≤ length l.line)
    × (l.rest ≡ drop (length l.line - length l.rest) l.line)

abbrev pub decreases-loop-run : goal.decreases-loop-run
decreases-loop-run l = length l.rest
