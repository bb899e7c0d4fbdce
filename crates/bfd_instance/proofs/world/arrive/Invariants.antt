-- The counters are the blanks' own.
use Rattle.bfd_instance.proofs.world.arrive.Given as goal

abbrev pub ghosts-own : goal.ghosts-own
ghosts-own g a = record { name = a.blank.name; parts = a.blank.parts }
