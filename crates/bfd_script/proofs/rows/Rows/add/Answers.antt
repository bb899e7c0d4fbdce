use Rattle.bfd_script.proofs.Rising.{pushed_last}
use Rattle.bfd_script.proofs.rows.Rows.add.Goals as goal

-- it is above all others
pub invariant_of-self-then-are_below : goal.invariant_of-self-then-are_below
invariant_of-self-then-are_below c = (pushed_last c.args.config _
    c.self.invariant c.self.view_is (c.is_empty.ensures.0 c.if-is_empty.true) c.deref.ensures.value
    (c.are_below.ensures c.if-are_below.true) c.discr.ensures
    c.requires.room c.requires.discr c.in_ok-push.ensures.items).rows

pub returns-then-are_below : goal.returns-then-are_below
returns-then-are_below c = (pushed_last c.args.config _
    c.self.invariant c.self.view_is (c.is_empty.ensures.0 c.if-is_empty.true) c.deref.ensures.value
    (c.are_below.ensures c.if-are_below.true) c.discr.ensures
    c.requires.room c.requires.discr c.in_ok-push.ensures.items).entries
