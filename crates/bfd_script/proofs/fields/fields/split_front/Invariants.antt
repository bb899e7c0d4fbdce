use Rattle.bfd_script.proofs.FieldsCommon.{◌≡◌, ◌≤◌, ◌+◌, ◌==◌, ◌++◌, length, map, take, slice_split, mask_l}
use Rattle.bfd_script.proofs.fields.fields.split_front.Given as goal

-- the fields so far, and then those that are left, are those of the line; the marks are those of what is left; and there is room for a
-- field before each byte that has one
abbrev pub invariant-loop-marks : goal.invariant-loop-marks
invariant-loop-marks l =
    (map (λ field. field.now) l.fields.items ++ slice_split (λ byte. byte == 32) l.rest ≡ map (λ field. field.now) l.initial.fields.items
    ++ slice_split (λ byte. byte == 32) l.line)
    × (l.marked ≤ length l.rest) × (l.marked ≤ 64) × (l.fields.len + l.marked ≤ l.fields.cap)
    × (l.marks ≡ mask_l (map (λ byte. byte == 32) (take l.marked l.rest)))

abbrev pub decreases-loop-marks : goal.decreases-loop-marks
decreases-loop-marks l = length l.rest
