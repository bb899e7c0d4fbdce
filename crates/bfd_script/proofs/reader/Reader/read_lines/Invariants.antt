use Rattle.std.proofs.Common.{◌≡◌, ◌+◌, ◌≤◌, ◌++◌, ℕ, [], List, length}
use Rattle.bfd_script.specs.Continued.{told_with}
use Rattle.bfd_script.proofs.reader.Reader.read_lines.Given as goal

-- what was read says what the whole does
abbrev pub invariant-loop-line : goal.invariant-loop-line
invariant-loop-line l = ((more : List ℕ) → told_with l.self (l.rest ++ more) ≡ told_with l.fn.self (l.fn.text ++ more))
    × (l.self.begun ≡ [])
    × (l.self.number + length l.rest ≤ l.fn.self.number + length l.fn.text)

abbrev pub decreases-loop-line : goal.decreases-loop-line
decreases-loop-line l = length l.rest
