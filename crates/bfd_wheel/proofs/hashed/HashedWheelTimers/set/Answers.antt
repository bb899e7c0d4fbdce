use Rattle.bfd_wheel.proofs.Views.{back, set_view, due_of_below}
use Rattle.bfd_wheel.proofs.hashed.HashedWheelTimers.set.Goals as goal

pub returns-clause-dues : goal.returns-clause-dues
returns-clause-dues g c =
    cc (
      back c.self.inside.dues.len c.change.new.dues c.self.inside.dues.items (cc),
      set_view _ _ _ _ c.args.id c.args.due _ c.deref_mut-2.ensures.value c.self.view_is c.change.ensures.dues
          (due_of_below _ c.requires.due),
    )
