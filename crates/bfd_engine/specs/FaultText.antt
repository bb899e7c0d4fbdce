-- The texts that report the faults of an engine.
use Rattle.std.specs.Prelude.{ℕ, List, ◌++◌, codes}
use Rattle.std.specs.Fmt.{decimal}
use Rattle.bfd_demux.specs.FaultText as rows
use Rattle.bfd_engine.specs.declared.fault.EngineFault.{EngineFault}
use Rattle.bfd_engine.specs.declared.fault.EngineFault.TheVariants.{Memory as NoMemory, Full, Spent}
use Rattle.bfd_engine.specs.declared.fault.OpenFault.{OpenFault}
use Rattle.bfd_engine.specs.declared.fault.OpenFault.TheVariants.{Build, Memory}

abbrev pub fault_text : EngineFault → List ℕ
fault_text NoMemory = codes "no memory is left"
fault_text (Full shard length) = codes "the journal of shard "
    ++ (decimal shard ++ (codes " has " ++ (decimal length ++ codes " entries, its limit")))
fault_text (Spent shard word) = codes "no turn of shard " ++ (decimal shard ++ codes " is left")

abbrev pub open_fault_text : OpenFault → List ℕ
open_fault_text (Build fault) = rows.fault_text fault
open_fault_text Memory = codes "no memory is left"
