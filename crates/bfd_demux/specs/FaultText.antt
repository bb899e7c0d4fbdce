-- The text that reports a fault of rows.
use Rattle.std.specs.Prelude.{ℕ, List, ◌++◌, codes}
use Rattle.std.specs.Fmt.{decimal}
use Rattle.bfd_demux.specs.declared.fault.BuildFault.{BuildFault}
use Rattle.bfd_demux.specs.declared.fault.BuildFault.TheVariants.{SameDiscr, SameAddresses, ZeroDiscr, TooMany, Memory}

-- the fault in words: of a pair the earlier row is named first
abbrev pub fault_text : BuildFault → List ℕ
fault_text (SameDiscr earlier place) = codes "rows "
    ++ (decimal earlier ++ (codes " and " ++ (decimal place ++ codes " have one discriminator")))
fault_text (SameAddresses earlier place) = codes "rows "
    ++ (decimal earlier ++ (codes " and " ++ (decimal place ++ codes " are of one kind with the same addresses")))
fault_text (ZeroDiscr place) = codes "row " ++ (decimal place ++ codes " has the discriminator 0")
fault_text (TooMany count) = decimal count ++ codes " rows are more than 65,536"
fault_text Memory = codes "no memory is left"
