-- What is observed of ports, and how each call changes it.
use Rattle.std.specs.Prelude.{ℕ, ◌==◌, ◌||◌, Bool, Option, Some, Result, Ok, Err, if◌then◌else◌}
use Rattle.bfd_edge.specs.declared.fault.Fault.{Fault}
use Rattle.bfd_edge.specs.declared.fault.Fault.TheVariants.{Failed, Memory}
use Rattle.bfd_edge.specs.Faults.{risen}
use Rattle.bfd_edge.specs.Links.{LinkObserved}

pub record PortsObserved : Type 0 where
  -- which numbers were opened
  pub opened : ℕ → Bool
  -- what was observed of the link of each number when it was shut
  pub shut : ℕ → Option LinkObserved
  -- how often opening failed
  pub faults : ℕ

-- what is observed of ports after an answer to an open of this number
abbrev pub after_open : {L : Type 0} → ℕ → Result L Fault → PortsObserved → PortsObserved
after_open number (Ok link) observed = record observed { opened = λ n. (n == number) || observed.opened n }
after_open number (Err Failed) observed = record observed { faults = risen observed.faults 1 }
after_open number (Err Memory) observed = observed

-- what is observed of ports after the link of this number, observed so, was shut
abbrev pub after_shut : ℕ → LinkObserved → PortsObserved → PortsObserved
after_shut number link observed = record observed { shut = λ n. if n == number then Some link else observed.shut n }
