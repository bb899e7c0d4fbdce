-- What a run has to write, before it writes it.
use Rattle.std.specs.Prelude.{◌≡◌, List, ℕ, [], ⊤}
use Rattle.bfdd.specs.declared.job.status.Status.{Status}
use Rattle.bfdd.specs.declared.job.status.Status.TheVariants.{Done, Usage, BadLine, ReadFault, WriteFault, PortFault, LinkFault, TooLarge}
use Rattle.bfdd.specs.declared.job.status.Status.TheVariants.{JournalFull, Turns, ClockFault, Memory, NoMember}
use Rattle.bfdd.specs.Text.{Wanted, complaint_line}

-- the text that goes with a status: a faulty line has its complaint, and a run that was refused before it began has none. No answer
-- has the status Usage, ReadFault, WriteFault or Memory
abbrev pub HasText : Status → List ℕ → Type 0
HasText Done text = ⊤
HasText (BadLine line fault) text = text ≡ complaint_line (record { line = line; fault = fault })
HasText (LinkFault number) text = ⊤
HasText (JournalFull shard) text = ⊤
HasText (Turns number) text = ⊤
HasText ClockFault text = ⊤
HasText PortFault text = text ≡ []
HasText TooLarge text = text ≡ []
HasText (NoMember discr) text = text ≡ []
HasText Usage text = ⊥
HasText ReadFault text = ⊥
HasText WriteFault text = ⊥
HasText Memory text = ⊥

abbrev pub IsAnswer : Wanted → Type 0
IsAnswer w = HasText w.status w.text
