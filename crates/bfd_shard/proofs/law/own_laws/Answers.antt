-- The laws as they are stated.
use Rattle.bfd_shard.proofs.Dealing.{own_of_shard, last_of_shard}
use Rattle.bfd_shard.proofs.law.own_laws.Goals as goal

pub returns-clause-own : goal.returns-clause-own
returns-clause-own c = own_of_shard

pub returns-clause-last : goal.returns-clause-last
returns-clause-last c = last_of_shard
