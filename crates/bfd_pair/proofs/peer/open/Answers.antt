-- The table and the way are those of the session.
use Rattle.bfd_pair.proofs.Peers.{opened_peer}
use Rattle.bfd_pair.proofs.peer.open.Goals as goal

pub returns-clause-peer : goal.returns-clause-peer
returns-clause-peer c = opened_peer _ c.make.ensures.session c.in_ok-table.ensures c.way_to-way.ensures
