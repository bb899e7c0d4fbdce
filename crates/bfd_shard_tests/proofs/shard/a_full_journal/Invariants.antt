-- The counter is the blank's own.
use Rattle.bfd_shard_tests.proofs.shard.a_full_journal.Given as goal

abbrev pub ghosts-fills : goal.ghosts-fills
ghosts-fills g a = record { name = a.blank.name; parts = a.blank.parts }
