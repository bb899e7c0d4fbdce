use Rattle.bfd_script.proofs.Addressed.{next_new}
use Rattle.bfd_script.proofs.places.Places.is_next.Goals as goal

pub returns-then-is_empty : goal.returns-then-is_empty
returns-then-is_empty c above = next_new c.self.inside.greatest c.args.kind.now c.self.inside.rising.items c.self.inside.others.keys
    c.self.invariant (c.is_empty.ensures.0 c.if-is_empty.true) c.self.view_is (cc)
