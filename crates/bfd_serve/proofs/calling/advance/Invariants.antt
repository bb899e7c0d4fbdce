-- The counter is the blank's own.
use Rattle.bfd_serve.proofs.calling.advance.Given as goal

abbrev pub ghosts-advance_shard : goal.ghosts-advance_shard
ghosts-advance_shard g a = record { name = a.blank.name; parts = a.blank.parts }
