-- As many discriminators are lower as the partition says.
use Rattle.std.proofs.Common.{tests}
use Rattle.bfd_session.proofs.Common.{nat_lt, rules, Reflector}
use Rattle.std.proofs.lemmas.Fn.{always_returns_same}
use Rattle.bfd_session.proofs.Changes.{pool_up, lower_counted}
use Rattle.bfd_session.proofs.table.pool_place_for.Goals as goal

pub returns-clause-value : goal.returns-clause-value
returns-clause-value c =
    lower_counted (λ (r : Reflector). r.discr) c.args.pool.now c.args.discr c.partition_point.result c.partition_point.ensures.bound
    (pool_up c.args.pool.now c.requires)
    (c.partition_point.ensures.partitioned (λ (r : Reflector). nat_lt r.discr c.args.discr)
    (always_returns_same _ _ _ (λ a r f k. search (rules, tests))))
