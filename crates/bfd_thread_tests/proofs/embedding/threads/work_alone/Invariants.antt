-- The counter is the blank's own.
use Rattle.bfd_thread_tests.proofs.embedding.threads.work_alone.Given as goal

abbrev pub ghosts-work : goal.ghosts-work
ghosts-work g a = record { name = a.blank.name; parts = a.blank.parts }
