use Rattle.bfd_script.proofs.Common.{◌≡◌, ◌+◌, ◌*◌, ◌++◌, ◌≤◌, drop, length}
use Rattle.hex.specs.Hex.{encode_lower}
use Rattle.bfd_script.proofs.report.put_hex.Given as goal

-- the digits of the bytes that are left, and then those so far, are those of all bytes
abbrev pub invariant-loop-before : goal.invariant-loop-before
invariant-loop-before l = (l.start + 2 * length l.bytes ≡ l.at + 2 * length l.rest)
    × (length l.rest ≤ length l.bytes)
    × (encode_lower l.rest ++ drop l.start l.room ≡ encode_lower l.bytes ++ drop l.at l.initial.room)

abbrev pub decreases-loop-before : goal.decreases-loop-before
decreases-loop-before l = length l.rest
