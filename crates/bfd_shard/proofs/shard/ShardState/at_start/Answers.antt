-- A shard at the start.
use Rattle.bfd_shard.proofs.Common.{◌-◌, arith, length-map, vec_len, vec_capacity, configs_of}
use Rattle.bfd_shard.proofs.Setting.{shard_made}
use Rattle.bfd_shard.proofs.shard.ShardState.at_start.Goals as goal

pub invariant_of-result : goal.invariant_of-result
invariant_of-result g c =
    let group = c.args.group in
    shard_made (configs_of group.sessions) c.args.limit (vec_capacity c.in_ok-journal.journal - vec_len c.in_ok-journal.journal)
    (omega (arith, length-map group.sessions (λ s. s.config), c.sessions.ensures.few)) c.requires.start c.requires.last
    c.sessions.ensures.sound c.in_ok-journal.ensures.items

pub returns-clause-kept : goal.returns-clause-kept
returns-clause-kept g c = invariant_of-result g c
