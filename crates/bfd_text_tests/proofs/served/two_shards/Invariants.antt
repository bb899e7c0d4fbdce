-- The counters are the blanks' own.
use Rattle.bfd_text_tests.proofs.served.two_shards.Given as goal

abbrev pub ghosts-closed : goal.ghosts-closed
ghosts-closed g a = record { name = a.blank.name; parts = a.blank.parts }
