use Rattle.bfd_script.proofs.Common.{◌∙◌, ◌++◌, ap, option_to_list}
use Rattle.bfd_script.proofs.Rising.{popped}
use Rattle.bfd_script.proofs.rows.with_all.Goals as goal

-- the last of those that rise is below all others
pub loop-config-preserved : goal.loop-config-preserved
loop-config-preserved c =
    let p = popped c.in-Some.config c.pop.new.self.items c.loop-config.invariant.rows
    (c.pop.ensures.items ∙ ap (λ r. c.pop.new.self.items ++ option_to_list r) c.in-Some.is) c.discr.ensures c.in_ok-insert.ensures.entries
    in
    record { entries = cc; rows = p.rows }
