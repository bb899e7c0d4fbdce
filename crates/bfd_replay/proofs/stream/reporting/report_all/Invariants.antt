-- The counter is the blank's own.
use Rattle.bfd_replay.proofs.stream.reporting.report_all.Given as goal

abbrev pub ghosts-report_lines : goal.ghosts-report_lines
ghosts-report_lines g a = record { name = a.blank.name; parts = a.blank.parts }
