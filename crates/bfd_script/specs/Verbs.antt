-- The verbs of a command line.
use Rattle.std.specs.Prelude.{ℕ, Bool, true, false, not, ◌&&◌, List, Option, Some, None, codes, Result, Ok, Err, if◌then◌else◌}
use Rattle.std.specs.Str.{bytes_eq}
use Rattle.bfd_rules.specs.declared.commands.Cmd.{Cmd}
use Rattle.bfd_rules.specs.declared.commands.Cmd.TheVariants as commands
use Rattle.bfd_script.specs.declared.fields.fault.LineFault.{LineFault}
use Rattle.bfd_script.specs.declared.fields.fault.LineFault.TheVariants.{UnknownWord}
use Rattle.bfd_script.specs.declared.line.verbs.Verb.{Verb}
use Rattle.bfd_script.specs.declared.line.verbs.Verb.TheVariants.{Disable, Enable, Reset, Path, Tx, Rx, Mult, Demand, Echo, Key}
use Rattle.bfd_script.specs.declared.line.words.Version.{Version}
use Rattle.bfd_script.specs.Words.{is_second}

-- the verb that a field spells; `key` is one of version 2 alone
abbrev pub verb_of : Version → List ℕ → Option Verb
verb_of version field =
    if bytes_eq field (codes "disable") then Some Disable
    else if bytes_eq field (codes "enable") then Some Enable
    else if bytes_eq field (codes "reset") then Some Reset
    else if bytes_eq field (codes "path") then Some Path
    else if bytes_eq field (codes "tx") then Some Tx
    else if bytes_eq field (codes "rx") then Some Rx
    else if bytes_eq field (codes "mult") then Some Mult
    else if bytes_eq field (codes "demand") then Some Demand
    else if bytes_eq field (codes "echo") then Some Echo
    else if bytes_eq field (codes "key") && is_second version then Some Key
    else None

-- the verb has a number
abbrev pub takes_number : Verb → Bool
takes_number Disable = false
takes_number Enable = false
takes_number Reset = false
takes_number verb = true

-- a line with a number, or without, has as many fields as its verb requires; an unknown verb allows both
abbrev pub fits : Option Verb → Bool → Bool
fits None numbered = true
fits (Some verb) numbered = if numbered then takes_number verb else not (takes_number verb)

-- a verb that is known
abbrev pub known_verb : Option Verb → Result Verb LineFault
known_verb None = Err UnknownWord
known_verb (Some verb) = Ok verb

-- the command of a verb, with its number if it has one
abbrev pub command : Verb → ℕ → Cmd
command Disable n = commands.Disable
command Enable n = commands.Enable
command Reset n = commands.Reset
command Path n = commands.Path n
command Tx n = commands.Tx n
command Rx n = commands.Rx n
command Mult n = commands.Mult n
command Demand n = commands.Demand n
command Echo n = commands.EchoEvery n
command Key n = commands.Key n

-- the number of a command, 0 if it has none
abbrev pub command_number : Cmd → ℕ
command_number commands.Disable = 0
command_number commands.Enable = 0
command_number commands.Reset = 0
command_number (commands.Path n) = n
command_number (commands.Tx n) = n
command_number (commands.Rx n) = n
command_number (commands.Mult n) = n
command_number (commands.Demand n) = n
command_number (commands.EchoEvery n) = n
command_number (commands.Key n) = n
