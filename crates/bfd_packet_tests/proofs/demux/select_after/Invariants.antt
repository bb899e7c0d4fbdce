use Rattle.bfd_packet_tests.proofs.demux.select_after.Given as goal

abbrev pub ghosts-screened : goal.ghosts-screened
ghosts-screened a = record { name = a.blank.name; parts = a.blank.parts }
