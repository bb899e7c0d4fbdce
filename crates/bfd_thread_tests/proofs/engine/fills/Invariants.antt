-- The counter is the blank's own.
use Rattle.bfd_thread_tests.proofs.engine.fills.Given as goal

abbrev pub ghosts-asks_on : goal.ghosts-asks_on
ghosts-asks_on g a = record { name = a.blank.name; parts = a.blank.parts }
