-- Rows that have no fault ascend, where they stand in order.
use Rattle.bfd_session.proofs.Common.{◌≡◌, None, rules, table_of}
use Rattle.bfd_demux.specs.Rows.{build_fault}
use Rattle.bfd_session.proofs.Unrepeated.{ascending, pool_ascending, few_sessions}
use Rattle.bfd_session.proofs.table.Table.build.Goals as goal

pub of-requires-in-Ok-of-clause-ascends : goal.of-requires-in-Ok-of-clause-ascends
of-requires-in-Ok-of-clause-ascends c =
    let none : build_fault (table_of c.args.configs.now.items c.args.pool.items) ≡ None = search rules in
    rw c.in-Ok-of.ensures (ascending c.args.configs.now.items c.args.pool.items none c.requires.0)

pub of-requires-in-Ok-of-clause-climbs : goal.of-requires-in-Ok-of-clause-climbs
of-requires-in-Ok-of-clause-climbs c =
    let none : build_fault (table_of c.args.configs.now.items c.args.pool.items) ≡ None = search rules in
    pool_ascending c.args.configs.now.items c.args.pool.items none c.requires.1

pub of-requires-in-Ok-of-clause-few : goal.of-requires-in-Ok-of-clause-few
of-requires-in-Ok-of-clause-few c =
    let none : build_fault (table_of c.args.configs.now.items c.args.pool.items) ≡ None = search rules in
    rw c.in-Ok-of.ensures (few_sessions c.args.configs.now.items c.args.pool.items none)
