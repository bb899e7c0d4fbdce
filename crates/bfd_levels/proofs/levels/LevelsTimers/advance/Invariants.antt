use Rattle.bfd_levels.proofs.levels.LevelsTimers.advance.Given as goal

abbrev pub ghosts-advance_uncounted : goal.ghosts-advance_uncounted
ghosts-advance_uncounted a = record { name = a.blank.name; parts = a.blank.parts }
