use Rattle.bfd_shard_tests.proofs.levels.worked_row.Given as goal

abbrev pub ghosts-five : goal.ghosts-five
ghosts-five g a = record { name = a.blank.name; parts = a.blank.parts }
