-- How a run ends, by the ends of its callers.
use Rattle.std.specs.Prelude.{ℕ, ◌+◌, List, [], ◌∷◌}
use Rattle.bfd_edge.specs.declared.fault.Fault.{Fault}
use Rattle.bfd_edge.specs.declared.fault.Fault.TheVariants as fault
use Rattle.bfd_serve.specs.declared.ending.End.{End}
use Rattle.bfd_serve.specs.declared.ending.End.TheVariants as ends
use Rattle.bfd_serve.specs.declared.run.finish.Finish.{Finish}
use Rattle.bfd_serve.specs.declared.run.finish.Finish.TheVariants.{Done, LinkFault, ClockFault, JournalFull, Turns}
use Rattle.bfd_serve.specs.declared.run.finish.Refused.{Refused}
use Rattle.bfd_serve.specs.declared.run.finish.Refused.TheVariants.{PortFault, Memory}

abbrev pub refused_as : Fault → Refused
refused_as fault.Failed = PortFault
refused_as fault.Memory = Memory

-- no lock was spent
abbrev pub IsUnspent : End → Type 0
IsUnspent (ends.Spent shard word) = ⊥
IsUnspent ends.Ended = Unit {0}
IsUnspent ends.LinkFault = Unit {0}
IsUnspent ends.ClockFault = Unit {0}
IsUnspent (ends.Full shard n) = Unit {0}
IsUnspent (ends.Turns n) = Unit {0}
IsUnspent ends.Memory = Unit {0}

-- .. and there was memory
abbrev pub HadMemory : End → Type 0
HadMemory (ends.Spent shard word) = ⊥
HadMemory ends.Ended = Unit {0}
HadMemory ends.LinkFault = Unit {0}
HadMemory ends.ClockFault = Unit {0}
HadMemory (ends.Full shard n) = Unit {0}
HadMemory (ends.Turns n) = Unit {0}
HadMemory ends.Memory = ⊥

-- the finish by the end of the caller of this number, which comes before the others
abbrev pub finish_by : ℕ → End → Finish → Finish
finish_by number ends.Ended others = others
finish_by number ends.LinkFault others = LinkFault number
finish_by number ends.ClockFault others = ClockFault
finish_by number (ends.Full shard n) others = JournalFull shard
finish_by number (ends.Turns n) others = Turns number
finish_by number (ends.Spent shard word) others = others
finish_by number ends.Memory others = others

-- the finish by the ends of the callers from this number on: that of the first one that has a finish, or Done
abbrev pub finish_from : ℕ → List End → Finish
finish_from number [] = Done
finish_from number (end ∷ more) = finish_by number end (finish_from (number + 1) more)
