use Rattle.bfd_script.proofs.Rising.{next_new}
use Rattle.bfd_script.proofs.rows.Rows.is_next.Goals as goal

pub returns-then-is_empty : goal.returns-then-is_empty
returns-then-is_empty c below = next_new c.args.discr c.self.inside.others.entries c.self.view_is (c.is_empty.ensures.0 c.if-is_empty.true)
    c.deref.ensures.value (c.are_below.ensures below)
