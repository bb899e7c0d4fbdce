-- The counter is the blank's own.
use Rattle.bfd_session.proofs.table.Table.screen_uncounted.Given as goal

abbrev pub ghosts-screened : goal.ghosts-screened
ghosts-screened a = record { name = a.blank.name; parts = a.blank.parts }
