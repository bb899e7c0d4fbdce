-- The shards are those of the shares.
use Rattle.bfd_engine.proofs.Common.{refl}
use Rattle.bfd_engine.proofs.Opening.{numbers, engine_is, pass_is}
use Rattle.bfd_engine.proofs.open.engine_of.Goals as goal

pub invariant_of-engine : goal.invariant_of-engine
invariant_of-engine g c =
    let o = c.requires.opened in
    engine_is c.args.table.configs c.args.table.pool o.shares o.opened refl c.requires.few.0 c.requires.few.1 c.pool.ensures.few

pub invariant_of-pass : goal.invariant_of-pass
invariant_of-pass g c =
    let o = c.requires.opened in
    numbers c.args.limit _ c.args.table.configs o.parts c.args.opened.0.items c.args.opened.1.items c.args.opened.2.items o.shares o.opened

pub returns-clause-pass : goal.returns-clause-pass
returns-clause-pass g c =
    let o = c.requires.opened in
    pass_is c.args.table.configs c.args.table.pool o.shares o.opened refl
