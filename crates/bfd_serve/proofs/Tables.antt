-- The table of a script has no fault, and its sessions and reflectors stand in order.
use Rattle.bfd_serve.proofs.RunCommon.{None, ◌≡◌, List, SessionConfig, table_of, Line, script_with}
use Rattle.bfd_sbfd.specs.declared.reflecting.Reflector.{Reflector}
use Rattle.bfd_demux.specs.Rows.{build_fault}
use Rattle.bfd_session.specs.Tables.{IsSorted}
use Rattle.bfd_engine.proofs.Ordered as ordered
use Rattle.bfd_script.specs.Sound.{IsScript}
use Rattle.bfd_script.proofs.Faults as script

-- the table of a script has no fault
pub no_fault : (configs : List SessionConfig) (pool : List Reflector) (events : List Line) → IsScript (script_with configs pool events)
    → build_fault (table_of configs pool) ≡ None
no_fault configs pool events s = script.no_fault _ pool s.configs s.pool s.apart s.few

-- its sessions and reflectors stand in order
pub sorted : (configs : List SessionConfig) (pool : List Reflector) (events : List Line) → IsScript (script_with configs pool events)
    → IsSorted configs pool
sorted configs pool events s = ordered.sorted configs pool s.configs.ascends s.pool.ascends
