-- What is written reads back.
use Rattle.bfd_packet.proofs.RoundTrip.{read_of-written}
use Rattle.bfd_packet.proofs.writing.write.Goals as goal

pub returns-clause-again : goal.returns-clause-again
returns-clause-again c = read_of-written c.args.section.now c.packed.ensures.text c.requires c.packed.ensures.words
