use Rattle.bfd_shard_tests.proofs.wheel.every_row.Given as goal

abbrev pub ghosts-in_jumps : goal.ghosts-in_jumps
ghosts-in_jumps g a = record { name = a.blank.name; parts = a.blank.parts }

abbrev pub ghosts-out_of_order : goal.ghosts-out_of_order
ghosts-out_of_order g a = record { name = a.blank.name; parts = a.blank.parts }

abbrev pub ghosts-tick_by_tick : goal.ghosts-tick_by_tick
ghosts-tick_by_tick g a = record { name = a.blank.name; parts = a.blank.parts }
