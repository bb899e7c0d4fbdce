-- The counter is the blank's own.
use Rattle.bfd_serve.proofs.calling.give.Given as goal

abbrev pub ghosts-ask : goal.ghosts-ask
ghosts-ask g a = record { name = a.blank.name; parts = a.blank.parts }
