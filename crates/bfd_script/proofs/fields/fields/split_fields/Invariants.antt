use Rattle.bfd_script.proofs.FieldsCommon.{◌≡◌, ◌==◌, ◌++◌, length, map, slice_split, split_fields}
use Rattle.bfd_script.proofs.fields.fields.split_fields.Given as goal

-- the fields so far, and then those that are left, are those of the line
abbrev pub invariant-loop-field : goal.invariant-loop-field
invariant-loop-field l = map (λ field. field.now) l.fields.items ++ slice_split (λ byte. byte == 32) l.rest ≡ split_fields l.line

abbrev pub decreases-loop-field : goal.decreases-loop-field
decreases-loop-field l = length l.rest
