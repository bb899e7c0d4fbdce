-- How a run ends.
use Rattle.std.specs.Prelude.{◌≡◌, ◌⊎◌, ℕ, true, List, Option, ⊤}
use Rattle.std.specs.Io.KnownBytes.{Appends}
use Rattle.std.specs.declared.io.ErrorKind.{ErrorKind}
use Rattle.std.specs.declared.io.ErrorKind.TheVariants.{OutOfMemory}
use Rattle.bfd_edge.specs.Faults.{Rose}
use Rattle.bfd_script.specs.declared.fields.fault.BadLine.{BadLine as FaultyLine}
use Rattle.bfdd.specs.declared.words.job.Job.{Job}
use Rattle.bfdd.specs.declared.job.status.Status.{Status}
use Rattle.bfdd.specs.declared.job.status.Status.TheVariants.{Done, Usage, BadLine, ReadFault, WriteFault, PortFault, LinkFault, TooLarge}
use Rattle.bfdd.specs.declared.job.status.Status.TheVariants.{JournalFull, Turns, ClockFault, Memory, NoMember}
use Rattle.bfd_replay.specs.Written.{TookFront}
use Rattle.bfdd.specs.Words.{is_reading, is_serving, is_watching}

-- the status if the words of the command line aren't available
abbrev pub status_without_words : ErrorKind → Status
status_without_words OutOfMemory = Memory
status_without_words kind = Usage

-- a fact about the faulty line, if the status names one
abbrev pub OnBadLine : Status → (FaultyLine → Type 0) → Type 0
OnBadLine (BadLine line fault) P = P (record { line = line; fault = fault })
OnBadLine status P = ⊤

-- a run of this job may end so. Only a job that serves ends at a port, a link, a journal, turns or the ticker. Only one that watches
-- ends at a member that names no session. Only one that reads ends at its source or the source's text
abbrev pub IsEndOf : Option Job → Status → Type 0
IsEndOf job PortFault = is_serving job ≡ true
IsEndOf job (LinkFault number) = is_serving job ≡ true
IsEndOf job (JournalFull shard) = is_serving job ≡ true
IsEndOf job (Turns number) = is_serving job ≡ true
IsEndOf job ClockFault = is_serving job ≡ true
IsEndOf job (NoMember discr) = is_watching job ≡ true
IsEndOf job (BadLine line fault) = is_reading job ≡ true
IsEndOf job ReadFault = is_reading job ≡ true
IsEndOf job TooLarge = is_reading job ≡ true
IsEndOf job status = ⊤

-- a status, when this one is required: it is the required one, except when out of memory, for a source that failed, and for a sink that
-- failed when Done is required
abbrev pub IsDecided : Status → Status → Type 0
IsDecided Memory wanted = ⊤
IsDecided ReadFault wanted = ⊤
IsDecided WriteFault wanted = wanted ≡ Done
IsDecided status wanted = status ≡ wanted

-- a fact, unless the status is that of a write that failed, or of a text that may have been broken off
abbrev pub UnlessWriting : Status → Type 0 → Type 0
UnlessWriting WriteFault P = ⊤
UnlessWriting (BadLine line fault) P = ⊤
UnlessWriting (LinkFault number) P = ⊤
UnlessWriting (JournalFull shard) P = ⊤
UnlessWriting (Turns number) P = ⊤
UnlessWriting ClockFault P = ⊤
UnlessWriting status P = P

-- a fact, if nothing is written with the status
abbrev pub WhereUnwritten : Status → Type 0 → Type 0
WhereUnwritten Usage P = P
WhereUnwritten ReadFault P = P
WhereUnwritten PortFault P = P
WhereUnwritten TooLarge P = P
WhereUnwritten (NoMember discr) P = P
WhereUnwritten status P = ⊤

-- a fact, if the status comes before any port is opened
abbrev pub WhereUnopened : Status → Type 0 → Type 0
WhereUnopened Usage P = P
WhereUnopened ReadFault P = P
WhereUnopened TooLarge P = P
WhereUnopened (BadLine line fault) P = P
WhereUnopened (NoMember discr) P = P
WhereUnopened status P = ⊤

-- what the sink accepted of a text: all of it, or a prefix if its count rose
abbrev pub IsWritten : Option (List ℕ) → Option (List ℕ) → ℕ → ℕ → List ℕ → Type 0
IsWritten old new before now text = Appends old new text ⊎ (Rose before now × TookFront old new text)

-- the same by the status: with Done it is all of it, with WriteFault the count rose, and when memory ran out it is a prefix
abbrev pub IsWrittenBy : Status → Option (List ℕ) → Option (List ℕ) → ℕ → ℕ → List ℕ → Type 0
IsWrittenBy Done old new before now text = Appends old new text
IsWrittenBy WriteFault old new before now text = Rose before now × TookFront old new text
IsWrittenBy Memory old new before now text = TookFront old new text
IsWrittenBy status old new before now text = IsWritten old new before now text
