use Rattle.bfd_wheel.proofs.Common.{refl, None, never}
use Rattle.bfd_wheel.proofs.Views.{back, set_view, linked_view}
use Rattle.bfd_wheel.proofs.hashed.HashedWheelTimers.clear.Goals as goal

pub free-requires-clause-linked : goal.free-requires-clause-linked
free-requires-clause-linked g c = linked_view c.self.invariant c.deref_mut-2.ensures.value c.deref_mut.ensures.value c.self.view_is
    c.requires.id

pub returns-clause-dues : goal.returns-clause-dues
returns-clause-dues g c =
    cc (
      back c.self.inside.dues.len c.free.new.dues c.self.inside.dues.items (cc),
      set_view _ _ _ _ c.args.id never None c.deref_mut-2.ensures.value c.self.view_is c.free.ensures.dues refl,
    )
