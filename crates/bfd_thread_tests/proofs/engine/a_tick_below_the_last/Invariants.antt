-- The counter is the blank's own.
use Rattle.bfd_thread_tests.proofs.engine.a_tick_below_the_last.Given as goal

abbrev pub ghosts-sends_once : goal.ghosts-sends_once
ghosts-sends_once g a = record { name = a.blank.name; parts = a.blank.parts }
