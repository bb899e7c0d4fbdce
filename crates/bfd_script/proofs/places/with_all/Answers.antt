use Rattle.bfd_script.proofs.Addressed.{first_put}
use Rattle.bfd_script.proofs.places.with_all.Goals as goal

-- the first was put in
pub loop-rest-preserved : goal.loop-rest-preserved
loop-rest-preserved c = first_put c.loop-rest.rest.now _ c.in-len1-up.len_at_least c.kind-item.is c.in_ok-insert.ensures.updates.0
    c.loop-rest.invariant
