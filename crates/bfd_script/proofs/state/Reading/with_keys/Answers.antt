use Rattle.bfd_script.proofs.Giving.{with_keeps}
use Rattle.bfd_script.proofs.Naming.{reading_changed}
use Rattle.bfd_script.proofs.state.Reading.with_keys.Goals as goal

-- the events name sessions of the changed table
pub invariant_of-result : goal.invariant_of-result
invariant_of-result c = reading_changed (with_keeps c.args.keys) c.args.discr c.self.invariant c.with_keys-table.ensures
