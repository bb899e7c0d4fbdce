use Rattle.bfd_script.proofs.Common.{◌∙◌, ap, sym, option_copied}
use Rattle.bfd_script.proofs.Rising.{below_last}
use Rattle.bfd_script.proofs.rows.are_below.Goals as goal

-- the last is above all others
pub returns-in-Some : goal.returns-in-Some
returns-in-Some c = below_last c.args.discr c.args.rows.now c.requires (sym c.last.ensures.value ∙ ap (λ r. option_copied r) c.in-Some.is)
    c.discr.ensures
