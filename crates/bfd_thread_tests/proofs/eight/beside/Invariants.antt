-- The counter is the blank's own.
use Rattle.bfd_thread_tests.proofs.eight.beside.Given as goal

abbrev pub ghosts-beside_journals : goal.ghosts-beside_journals
ghosts-beside_journals a = record { name = a.blank.name; parts = a.blank.parts }
