-- What a function that may run out of memory answers, against a definition.
use Rattle.std.specs.Prelude.{◌≡◌, ℕ, Result, Ok, Err}
use Rattle.bfd_script.specs.declared.fields.fault.LineFault.{LineFault}
use Rattle.bfd_script.specs.declared.fields.fault.BadLine.{BadLine}
use Rattle.bfd_script.specs.declared.fields.fault.ReadFault.{ReadFault}
use Rattle.bfd_script.specs.declared.fields.fault.ReadFault.TheVariants as line
use Rattle.bfd_script.specs.declared.fields.fault.ScriptFault.{ScriptFault}
use Rattle.bfd_script.specs.declared.fields.fault.ScriptFault.TheVariants as script

infixl 10 ◌>>=◌
-- go on with the value, or stop at the fault
abbrev pub ◌>>=◌ : {X Y F : Type 0} → Result X F → (X → Result Y F) → Result Y F
(Ok value) >>= next = next value
(Err fault) >>= next = Err fault

-- a refusal of a line is its fault, unless memory ran out
abbrev pub Refuses : {X : Type 0} → ReadFault → Result X LineFault → Type 0
Refuses line.Memory read = Unit {0}
Refuses (line.Fault fault) read = read ≡ Err fault

-- the answer is what the definition reads of a line, unless memory ran out
abbrev pub Gives : {X Y : Type 0} → (X → Y) → Result X ReadFault → Result Y LineFault → Type 0
Gives view (Ok value) read = read ≡ Ok (view value)
Gives view (Err refusal) read = Refuses refusal read

-- why a text gives no script, in which the line of this number was refused
abbrev pub fault_at : ℕ → ReadFault → ScriptFault
fault_at number line.Memory = script.Memory
fault_at number (line.Fault fault) = script.Bad (record { line = number; fault = fault })

-- a refusal of a text is its first faulty line, unless memory ran out
abbrev pub RefusesText : {X : Type 0} → ScriptFault → Result X BadLine → Type 0
RefusesText script.Memory read = Unit {0}
RefusesText (script.Bad bad) read = read ≡ Err bad

-- the answer is what the definition reads of a text, unless memory ran out
abbrev pub GivesScript : {X : Type 0} → Result X ScriptFault → Result X BadLine → Type 0
GivesScript (Ok value) read = read ≡ Ok value
GivesScript (Err refusal) read = RefusesText refusal read

-- the answer, seen by view, is what the definition reads
abbrev pub SeesField : {X Y F : Type 0} → (X → Y) → Result X F → Result Y F → Type 0
SeesField view (Ok value) read = read ≡ Ok (view value)
SeesField view (Err fault) read = read ≡ Err fault
