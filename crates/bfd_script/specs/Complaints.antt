-- The text that reports a fault.
use Rattle.std.specs.Prelude.{ℕ, List, ◌∷◌, ◌++◌, codes}
use Rattle.std.specs.Fmt.{decimal}
use Rattle.bfd_script.specs.declared.fields.fault.LineFault.{LineFault}
use Rattle.bfd_script.specs.declared.fields.fault.LineFault.TheVariants.{NotAscii, TooLong, UnknownWord, FieldCount, BadNumber, OutOfRange}
use Rattle.bfd_script.specs.declared.fields.fault.LineFault.TheVariants.{BadHex, BadAddress, SameDiscr, SameAddresses, NoSuchSession, Order}
use Rattle.bfd_script.specs.declared.fields.fault.LineFault.TheVariants.{MissingEnd, TooMany, SameKey}
use Rattle.bfd_script.specs.declared.fields.fault.BadLine.{BadLine}

-- the name of a fault
abbrev pub fault_name : LineFault → List ℕ
fault_name NotAscii = codes "NotAscii"
fault_name TooLong = codes "TooLong"
fault_name UnknownWord = codes "UnknownWord"
fault_name FieldCount = codes "FieldCount"
fault_name BadNumber = codes "BadNumber"
fault_name OutOfRange = codes "OutOfRange"
fault_name BadHex = codes "BadHex"
fault_name BadAddress = codes "BadAddress"
fault_name SameDiscr = codes "SameDiscr"
fault_name SameAddresses = codes "SameAddresses"
fault_name NoSuchSession = codes "NoSuchSession"
fault_name Order = codes "Order"
fault_name MissingEnd = codes "MissingEnd"
fault_name TooMany = codes "TooMany"
fault_name SameKey = codes "SameKey"

-- `bad LINE FAULT`
abbrev pub complaint : BadLine → List ℕ
complaint bad = codes "bad " ++ (decimal bad.line ++ (32 ∷ fault_name bad.fault))
