-- A script's sessions and reflectors stand in order.
use Rattle.bfd_replay.proofs.Opening.{sorted}
use Rattle.bfd_replay.proofs.stream.opening.opened.Goals as goal

pub open-requires-clause-sorted : goal.open-requires-clause-sorted
open-requires-clause-sorted g c = sorted _ _ _ c.requires.script
