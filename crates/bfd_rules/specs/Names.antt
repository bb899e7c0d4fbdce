-- Whose an output is, and what a refusal is called.
use Rattle.std.specs.Prelude.{◌≡◌, ℕ, List, codes}
use Rattle.std.specs.List.{AllByRecursion}
use Rattle.bfd_rules.specs.declared.commands.Refusal.{Refusal}
use Rattle.bfd_rules.specs.declared.commands.Refusal.TheVariants.{PollBusy, WrongState, OutOfRange, WrongKind, UnknownSession}
use Rattle.bfd_rules.specs.declared.outputs.Out.{Out}
use Rattle.bfd_rules.specs.declared.outputs.Out.TheVariants.{Changed, Sent}

-- the discriminator that an output names
abbrev pub named : Out → ℕ
named (Changed discr old new diag) = discr
named (Sent discr datagram) = discr

-- each output names this discriminator
abbrev pub AllNamed : ℕ → List Out → Type 0
AllNamed discr outs = AllByRecursion (λ out. named out ≡ discr) outs

-- the name of a refusal of a command
abbrev pub refusal_name : Refusal → List ℕ
refusal_name PollBusy = codes "PollBusy"
refusal_name WrongState = codes "WrongState"
refusal_name OutOfRange = codes "OutOfRange"
refusal_name WrongKind = codes "WrongKind"
refusal_name UnknownSession = codes "UnknownSession"
