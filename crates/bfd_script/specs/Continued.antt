-- A text that is read piece by piece.
use Rattle.std.specs.Prelude.{ℕ, Bool, List, ◌++◌, Option, Some, None, Result, Err}
use Rattle.bfd_script.specs.declared.fields.fault.BadLine.{BadLine}
use Rattle.bfd_script.specs.Fields.{lines_of}
use Rattle.bfd_script.specs.Reading.{Lists, State, script_from}

-- how far a text was read
pub record Progress : Type 0 where
  -- packets and ticks come from outside
  pub live : Bool
  -- what the whole lines say
  pub state : State
  -- the number of the line that has begun
  pub number : ℕ
  -- its bytes so far
  pub begun : List ℕ
  -- the first faulty line
  pub found : Option BadLine

-- a faulty line that was found decides
abbrev pub unless_found : Option BadLine → Result Lists BadLine → Result Lists BadLine
unless_found (Some bad) read = Err bad
unless_found None read = read

-- what the lines from here on say
abbrev pub told_from : Progress → List (List ℕ) → Result Lists BadLine
told_from p lines = unless_found p.found (script_from p.live p.state p.number lines)

-- what the text says, if these bytes are the rest of it
abbrev pub told_with : Progress → List ℕ → Result Lists BadLine
told_with p rest = told_from p (lines_of (p.begun ++ rest))
