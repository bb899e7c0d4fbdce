-- The counter is the blank's own.
use Rattle.bfd_packet_tests.proofs.demux.selects_among_65536_initiators.Given as goal

abbrev pub ghosts-answered : goal.ghosts-answered
ghosts-answered g a = record { name = a.blank.name; parts = a.blank.parts }
