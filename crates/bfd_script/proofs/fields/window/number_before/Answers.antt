use Rattle.bfd_script.proofs.FieldsCommon.{arith, refl, ◌+◌}
use Rattle.bfd_script.proofs.Windowed.{number_ends}
use Rattle.bfd_script.proofs.fields.window.number_before.Goals as goal

pub returns-clause-says : goal.returns-clause-says
returns-clause-says c = number_ends (c.in_ok-n.at + 1) refl c.in_ok-n.ensures.number (omega (arith, c.told-text, c.requires.within, c.in_ok-n.ensures.near))
    c.if-text-at.false c.if-n-least.false c.if-n-most.false
