-- The table of a script has no fault, and its sessions and reflectors stand in order.
use Rattle.bfd_replay.proofs.StreamCommon.{◌≡◌, List, SessionConfig, Reflector, Line}
use Rattle.std.specs.Prelude.{None}
use Rattle.bfd_demux.specs.Rows.{build_fault}
use Rattle.bfd_session.specs.Rows.{table_of}
use Rattle.bfd_session.specs.Tables.{IsSorted}
use Rattle.bfd_engine.proofs.Ordered as ordered
use Rattle.bfd_script.specs.Sound.{IsScript}
use Rattle.bfd_script.proofs.Faults as script

pub no_fault : (configs : List SessionConfig) (pool : List Reflector) (events : List Line)
    → IsScript (record { configs = configs; pool = pool; events = events })
    → build_fault (table_of configs pool) ≡ None
no_fault configs pool events s = script.no_fault _ pool s.configs s.pool s.apart s.few

pub sorted : (configs : List SessionConfig) (pool : List Reflector) (events : List Line)
    → IsScript (record { configs = configs; pool = pool; events = events })
    → IsSorted configs pool
sorted configs pool events s = ordered.sorted configs pool s.configs.ascends s.pool.ascends
