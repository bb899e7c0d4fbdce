use Rattle.bfd_script.proofs.FieldsCommon.{◌≡◌, ◌+◌, ◌++◌, ◌≤◌, ℕ, Bool, List, length, lines_of}
use Rattle.bfd_script.proofs.Common.{script_from}
use Rattle.bfd_script.specs.declared.line.words.Place.TheVariants.{Table}
use Rattle.bfd_script.proofs.ahead.take_rows.Given as goal

-- the lines so far are accepted, and what is left goes on from there
abbrev pub invariant-loop-text : goal.invariant-loop-text
invariant-loop-text l = ((live : Bool) (more : List ℕ) → script_from live l.initial.reading l.number (lines_of (l.bytes ++ more))
    ≡ script_from live l.reading l.next (lines_of (l.rest ++ more)))
    × (l.reading.place ≡ Table) × (l.next + length l.rest ≤ l.number + length l.bytes)
    × (length l.rest ≤ length l.bytes)

abbrev pub decreases-loop-text : goal.decreases-loop-text
decreases-loop-text l = length l.rest
