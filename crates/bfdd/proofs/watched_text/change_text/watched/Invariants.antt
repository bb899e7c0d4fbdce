-- The counter is the blank's own.
use Rattle.bfdd.proofs.watched_text.change_text.watched.Given as goal

abbrev pub ghosts-write_changes : goal.ghosts-write_changes
ghosts-write_changes g a = record { name = a.blank.name; parts = a.blank.parts }
