-- The counter is the blank's own.
use Rattle.bfd_instance.proofs.instance.Instance.tick.Given as goal

abbrev pub ghosts-pass : goal.ghosts-pass
ghosts-pass g a = record { name = a.blank.name; parts = a.blank.parts }
