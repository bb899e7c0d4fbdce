-- The counter is the blank's own.
use Rattle.bfd_serve.proofs.served_text.entry_lines.write_entry.Given as goal

abbrev pub ghosts-follow : goal.ghosts-follow
ghosts-follow g a = record { name = a.blank.name; parts = a.blank.parts }
