-- The counter of steps is the blank's.
use Rattle.bfd_pair.proofs.peer.receive.Given as goal

abbrev pub ghosts-screened : goal.ghosts-screened
ghosts-screened a = record { name = a.blank.name; parts = a.blank.parts }
