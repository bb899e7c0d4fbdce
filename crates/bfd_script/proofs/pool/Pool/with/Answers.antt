use Rattle.bfd_script.proofs.Pooling.{pool_more, rows_pooled}
use Rattle.bfd_script.proofs.pool.Pool.with.Goals as goal

-- the entries are those of the longer pool
pub invariant_of-result : goal.invariant_of-result
invariant_of-result c = pool_more c.self.invariant c.self.view_is c.requires.discr c.requires.row c.in_ok-insert.ensures.entries

-- and the reflectors are the definition's
pub returns : goal.returns
returns c = rows_pooled c.args.reflector c.self.invariant.keyed c.self.view_is c.requires.discr c.in_ok-insert.ensures.entries
