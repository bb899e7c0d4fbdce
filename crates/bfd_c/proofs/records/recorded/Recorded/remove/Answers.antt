-- With a session its record leaves.
use Rattle.bfd_c.proofs.Keeping.{one_out}
use Rattle.bfd_c.proofs.records.recorded.Recorded.remove.Goals as goal

pub invariant_of-self : goal.invariant_of-self
invariant_of-self g c =
    rw (c.take_out.ensures, c.remove.ensures.world, ← c.in-Some.ensures.value)
    (one_out c.self.inside.records.items c.self.inside.instance.world.sessions c.in-Some.place c.self.invariant)
