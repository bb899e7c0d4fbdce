use Rattle.bfd_script.proofs.FieldsCommon.{◌≡◌, ◌+◌, ◌*◌, ◌^◌, ◌≤◌, length, is_ascii_digit, list_all, digits_value, digits_value_after}
use Rattle.bfd_script.proofs.fields.fields.small_number.Given as goal

-- the digits so far, and then those that are left, write the number, and there is room for it
abbrev pub invariant-loop-rest : goal.invariant-loop-rest
invariant-loop-rest l = (digits_value_after 10 l.n l.rest ≡ digits_value 10 l.field)
    × (list_all is_ascii_digit l.rest ≡ list_all is_ascii_digit l.field)
    × ((l.n + 1) * 10 ^ length l.rest ≤ 10 ^ 18)

abbrev pub decreases-loop-rest : goal.decreases-loop-rest
decreases-loop-rest l = length l.rest
