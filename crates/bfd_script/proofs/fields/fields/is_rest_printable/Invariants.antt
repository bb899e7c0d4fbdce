use Rattle.bfd_script.proofs.FieldsCommon.{◌≡◌, ◌&&◌, length, list_all, is_printable}
use Rattle.bfd_script.proofs.fields.fields.is_rest_printable.Given as goal

-- what was seen and what is left are the line
abbrev pub invariant-loop-rest : goal.invariant-loop-rest
invariant-loop-rest l = (l.printable && list_all is_printable l.rest) ≡ list_all is_printable l.line

abbrev pub decreases-loop-rest : goal.decreases-loop-rest
decreases-loop-rest l = length l.rest
