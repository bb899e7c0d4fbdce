-- What the turn promises, at a tick.
use Rattle.bfd_engine.proofs.engine.Engine.advance.Goals as goal

pub turn_on-requires-clause-shard : goal.turn_on-requires-clause-shard
turn_on-requires-clause-shard g c = c.requires.shard

pub turn_on-requires-clause-room : goal.turn_on-requires-clause-room
turn_on-requires-clause-room g c = c.requires.room

pub returns-clause-call : goal.returns-clause-call
returns-clause-call g c = c.turn_on.ensures.call

pub returns-clause-expires : goal.returns-clause-expires
returns-clause-expires g c = c.turn_on.ensures.timely

pub returns-clause-spare : goal.returns-clause-spare
returns-clause-spare g c = c.turn_on.ensures.spare
