use Rattle.bfd_levels.proofs.Common.{arith}
use Rattle.bfd_levels.proofs.Linking.{all_put}
use Rattle.bfd_levels.proofs.anew.put_all.Goals as goal

pub loop-id-preserved : goal.loop-id-preserved
loop-id-preserved c = c.put_next.ensures

pub returns : goal.returns
returns c = all_put c.loop-id.id c.loop-id.invariant (let test = c.loop-id-test.false in omega arith)
