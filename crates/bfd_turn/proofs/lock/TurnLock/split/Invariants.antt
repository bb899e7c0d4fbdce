use Rattle.bfd_turn.proofs.lock.TurnLock.split.Given as goal

-- the new pass has the number that was given
abbrev pub ghosts-split_as : goal.ghosts-split_as
ghosts-split_as g a = record { number = a.number }
