use Rattle.bfd_script.proofs.Addressed.{collected}
use Rattle.bfd_script.proofs.places.Places.with.Goals as goal

-- all are in the set
pub returns : goal.returns
returns c = λ q. rw c.clear.ensures.items (collected c.args.kind c.self.inside.rising.items c.self.inside.others.keys _ c.requires
    c.self.view_is
    (λ r. cc (c.in_ok-others.ensures r)) c.in_ok-insert.ensures.updates.0 q)
