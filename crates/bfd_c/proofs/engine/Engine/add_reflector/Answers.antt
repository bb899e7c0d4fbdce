-- Out of memory is reported only when the reflector has no fault.
use Rattle.bfd_c.proofs.Common.{sym, ◌∙◌}
use Rattle.bfd_session.specs.Kinds.{configs_of}
use Rattle.bfd_session.specs.Rows.{row_of_reflector, table_of}
use Rattle.bfd_instance.specs.World.{reflector_fault, world_with_reflector}
use Rattle.bfd_c.proofs.Faults.{memory_last, no_memory}
use Rattle.bfd_c.proofs.engine.Engine.add_reflector.Goals as goal

pub returns-clause-memory : goal.returns-clause-memory
returns-clause-memory c = λ two. rw (← c.self.view_is)
    (memory_last (reflector_fault c.args.reflector c.self.inside.world.world) c.in-Err.fault
    (world_with_reflector c.args.reflector c.self.inside.world.world) c.self.inside.world.records _
    c.in-Err.ensures.fault (no_memory (row_of_reflector c.args.reflector)
    (table_of (configs_of c.self.inside.world.world.sessions) c.self.inside.world.world.pool)) (sym c.add_code.ensures ∙ two))
