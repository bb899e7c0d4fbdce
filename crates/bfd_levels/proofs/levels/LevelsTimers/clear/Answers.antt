use Rattle.bfd_levels.proofs.Common.{refl, None, never, back, set_view}
use Rattle.bfd_levels.proofs.Potentials.{clears_falls}
use Rattle.bfd_levels.proofs.levels.LevelsTimers.clear.Goals as goal

pub returns-clause-dues : goal.returns-clause-dues
returns-clause-dues g c =
    cc (
      back c.self.inside.dues.len c.drop_due-self-inside.new.dues c.self.inside.dues.items (cc),
      set_view _ _ _ c.args.self.now.dues c.args.id never None c.deref_mut-2.ensures.value (cc) c.drop_due-self-inside.ensures.dues refl,
    )

pub returns-clause-falls : goal.returns-clause-falls
returns-clause-falls g c = clears_falls c.args.self.now c.args.id (cc)
    (cc (
      back c.self.inside.dues.len c.drop_due-self-inside.new.dues c.self.inside.dues.items (cc),
      set_view _ _ _ c.args.self.now.dues c.args.id never None c.deref_mut-2.ensures.value (cc) c.drop_due-self-inside.ensures.dues refl,
    ))
