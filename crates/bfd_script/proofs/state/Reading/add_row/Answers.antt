use Rattle.bfd_script.proofs.Common.{◌∙◌, ap, discr_of, is_full, is_taken, refl}
use Rattle.bfd_script.proofs.Naming.{reading_row}
use Rattle.bfd_script.proofs.state.Reading.add_row.Goals as goal

-- the events name sessions of the longer table, and no reflector has the new discriminator
pub invariant_of-self : goal.invariant_of-self
invariant_of-self c = reading_row c.args.config c.self.invariant c.in-Ok.ensures.added refl
    refl (ap (is_taken (discr_of c.args.config)) c.self.view_is ∙ c.in_ok-test_row.ensures.0) refl (ap is_full c.self.view_is ∙ c.in_ok-test_row.ensures.1.1)
