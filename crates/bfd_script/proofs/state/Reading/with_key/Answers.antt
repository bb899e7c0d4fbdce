use Rattle.bfd_script.proofs.Giving.{more_keeps}
use Rattle.bfd_script.proofs.Naming.{reading_changed}
use Rattle.bfd_script.proofs.state.Reading.with_key.Goals as goal

-- the events name sessions of the changed table
pub invariant_of-result : goal.invariant_of-result
invariant_of-result c = reading_changed (more_keeps c.args.key) c.args.discr c.self.invariant c.with_key-table.ensures
