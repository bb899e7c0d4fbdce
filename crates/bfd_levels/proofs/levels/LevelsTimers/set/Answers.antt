use Rattle.bfd_levels.proofs.Common.{back, set_view, due_of_below}
use Rattle.bfd_levels.proofs.Potentials.{set_rises}
use Rattle.bfd_levels.proofs.levels.LevelsTimers.set.Goals as goal

pub returns-clause-dues : goal.returns-clause-dues
returns-clause-dues g c =
    cc (
      back c.self.inside.dues.len c.change-self-inside.new.dues c.self.inside.dues.items (cc),
      set_view _ _ _ c.args.self.now.dues c.args.id c.args.due _ c.deref_mut-2.ensures.value (cc) c.change-self-inside.ensures.dues
          (due_of_below _ c.requires.due),
    )

pub returns-clause-rises : goal.returns-clause-rises
returns-clause-rises g c = set_rises c.args.self.now c.args.id c.args.due (cc)
    (cc (
      back c.self.inside.dues.len c.change-self-inside.new.dues c.self.inside.dues.items (cc),
      set_view _ _ _ c.args.self.now.dues c.args.id c.args.due _ c.deref_mut-2.ensures.value (cc) c.change-self-inside.ensures.dues
          (due_of_below _ c.requires.due),
    ))
