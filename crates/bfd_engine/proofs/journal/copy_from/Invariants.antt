use Rattle.bfd_engine.proofs.Copies.{IsPart}
use Rattle.bfd_engine.proofs.journal.copy_from.Given as goal

abbrev pub invariant-loop-place : goal.invariant-loop-place
invariant-loop-place l = record { part : IsPart l.from l.place l.journal l.list.items }
