use Rattle.bfd_script.proofs.FieldsCommon.{◌≡◌, ◌+◌, ◌*◌, ◌++◌, ℕ, List, Ok, length, take, decode_pairs}
use Rattle.bfd_script.proofs.fields.digits.decode_runs.Given as goal

-- the bytes so far, and then those of the digits that are left, are those of all digits
abbrev pub invariant-loop-run : goal.invariant-loop-run
invariant-loop-run l = (length l.rest + 2 * l.done ≡ 2 * length l.room) × (length l.room ≡ length l.initial.room)
    × ((more : List ℕ) → ((i : ℕ) → decode_pairs i l.rest ≡ Ok more) → decode_pairs 0 l.digits ≡ Ok (take l.done l.room ++ more))

abbrev pub decreases-loop-run : goal.decreases-loop-run
decreases-loop-run l = length l.rest
