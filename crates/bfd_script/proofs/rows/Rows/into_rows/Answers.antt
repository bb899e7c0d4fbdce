use Rattle.bfd_script.proofs.Rising.{values_more}
use Rattle.bfd_script.proofs.rows.Rows.into_rows.Goals as goal

-- the others stand behind those that rise
pub returns : goal.returns
returns c = cc (c.in_ok-append.ensures.items, c.in_ok-behind.ensures, values_more c.self.inside.rising.items c.self.inside.others.entries)
