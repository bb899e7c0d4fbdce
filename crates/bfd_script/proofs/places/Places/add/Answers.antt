use Rattle.bfd_script.proofs.Addressed.{pushed, up_to_more}
use Rattle.bfd_script.proofs.places.Places.add.Goals as goal

-- the new one is the greatest
pub invariant_of-self-then-is_lt : goal.invariant_of-self-then-is_lt
invariant_of-self-then-is_lt c = up_to_more c.self.inside.greatest c.args.kind c.self.inside.rising.items c.self.invariant (cc)
    c.in_ok-push.ensures.items

-- it stands behind the others
pub returns-then-is_lt : goal.returns-then-is_lt
returns-then-is_lt c = pushed c.args.kind c.self.inside.rising.items c.self.inside.others.keys c.requires c.in_ok-push.ensures.items
    c.self.view_is
