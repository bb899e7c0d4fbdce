use Rattle.bfd_script.proofs.Rising.{put_among}
use Rattle.bfd_script.proofs.rows.Rows.with.Goals as goal

-- all are in the map
pub invariant_of-result : goal.invariant_of-result
invariant_of-result c = (put_among c.args.config
    c.self.invariant c.self.view_is c.discr.ensures c.requires.room c.requires.discr c.in_ok-others.ensures.none
    c.in_ok-others.ensures.entries
    c.in_ok-insert.ensures.entries).rows

pub returns : goal.returns
returns c = (put_among c.args.config
    c.self.invariant c.self.view_is c.discr.ensures c.requires.room c.requires.discr c.in_ok-others.ensures.none
    c.in_ok-others.ensures.entries
    c.in_ok-insert.ensures.entries).entries
