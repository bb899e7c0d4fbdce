-- The code of a status.
use Rattle.std.specs.Prelude.{ℕ}
use Rattle.bfdd.specs.declared.job.status.Status.{Status}
use Rattle.bfdd.specs.declared.job.status.Status.TheVariants.{Done, Usage, BadLine, ReadFault, WriteFault, PortFault, LinkFault, TooLarge}
use Rattle.bfdd.specs.declared.job.status.Status.TheVariants.{JournalFull, Turns, ClockFault, Memory, NoMember}

-- the code that the program ends with
abbrev pub code_of : Status → ℕ
code_of Done = 0
code_of Usage = 1
code_of (BadLine line fault) = 2
code_of ReadFault = 3
code_of WriteFault = 4
code_of PortFault = 5
code_of (LinkFault number) = 6
code_of TooLarge = 7
code_of (JournalFull shard) = 8
code_of (Turns number) = 9
code_of ClockFault = 10
code_of Memory = 11
code_of (NoMember discr) = 12
