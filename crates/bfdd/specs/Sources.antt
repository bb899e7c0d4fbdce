-- The script that a source has.
use Rattle.std.specs.Prelude.{◌≡◌, ◌+◌, ◌<◌, ◌≤◌, ◌++◌, ◌⊎◌, ℕ, Bool, List, length, IfSome, Option, Ok, Err}
use Rattle.std.specs.Io.KnownBytes.{Consumes, IsAtEnd}
use Rattle.bfd_edge.specs.Faults.{Rose}
use Rattle.bfd_script.specs.declared.fields.fault.BadLine.{BadLine as FaultyLine}
use Rattle.bfd_script.specs.Continued.{Progress, told_with}
use Rattle.bfd_script.specs.Reading.{Lists, script_of}
use Rattle.bfdd.specs.declared.job.input.NoScript.{NoScript}
use Rattle.bfdd.specs.declared.job.input.NoScript.TheVariants.{Reported, Failed, Memory}
use Rattle.bfdd.specs.declared.job.status.Status.TheVariants.{BadLine, TooLarge}
use Rattle.bfdd.specs.Answers.{IsAnswer}
use Rattle.bfdd.specs.Text.{Wanted, bare, complaint_line, ends, most_bytes}

-- so many bytes were read, and a reader has taken them
pub record IsReadOn (live : Bool) (left right : Option (List ℕ)) (count : ℕ) (reader : Progress) : Type 0 where
  pub bytes : List ℕ
  pub read : Consumes left right bytes
  pub long : length bytes ≡ count
  pub number : reader.number + length reader.begun ≤ count + 1
  pub told : (more : List ℕ) → told_with reader more ≡ script_of live (bytes ++ more)

-- a source that was read to its end, and the script that its bytes spell
pub record IsRead (live : Bool) (left right : Option (List ℕ)) (script : Lists) : Type 0 where
  pub bytes : List ℕ
  pub read : Consumes left right bytes
  pub end : IsAtEnd right
  pub few : length bytes ≤ most_bytes
  pub spelled : script_of live bytes ≡ Ok script

-- .. if they spell no script
pub record IsFaulty (live : Bool) (left right : Option (List ℕ)) (w : Wanted) : Type 0 where
  pub bytes : List ℕ
  pub read : Consumes left right bytes
  pub end : IsAtEnd right
  pub few : length bytes ≤ most_bytes
  pub bad : FaultyLine
  pub spelled : script_of live bytes ≡ Err bad
  pub complained : w ≡ ends (BadLine bad.line bad.fault) (complaint_line bad)

-- .. if there are too many bytes
pub record IsOverlong (left right : Option (List ℕ)) (w : Wanted) : Type 0 where
  pub long : IfSome left (λ bytes. most_bytes < length bytes)
  pub nothing : w ≡ bare TooLarge

-- why a source gave no script, and whether its count of faults rose
abbrev pub HasNone : Bool → Option (List ℕ) → Option (List ℕ) → ℕ → ℕ → NoScript → Type 0
HasNone live left right before now (Reported answer) = (IsFaulty live left right answer ⊎ IsOverlong left right answer) × IsAnswer answer
    × (now ≡ before)
HasNone live left right before now Failed = Rose before now
HasNone live left right before now Memory = now ≡ before
