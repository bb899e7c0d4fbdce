-- The counter is the blank's own.
use Rattle.bfd_serve.proofs.calling.handle.Given as goal

abbrev pub ghosts-receive : goal.ghosts-receive
ghosts-receive g a = record { name = a.blank.name; parts = a.blank.parts }
