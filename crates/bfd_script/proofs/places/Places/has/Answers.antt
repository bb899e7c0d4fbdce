use Rattle.bfd_script.proofs.Addressed.{above_all}
use Rattle.bfd_script.proofs.places.Places.has.Goals as goal

-- one above the greatest is in the set alone
pub returns-then-is_lt : goal.returns-then-is_lt
returns-then-is_lt c = cc (above_all c.self.inside.greatest c.args.kind c.self.inside.rising.items c.self.inside.others.keys
    c.self.invariant (cc))
