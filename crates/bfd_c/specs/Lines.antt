-- Which event the values of a call ask for: that of an event line, with the ranges of the packet file.
use Rattle.std.specs.Prelude.{ℕ, ◌==◌, ◌&&◌, nat_le, nat_lt, Option, None, Some, List, if◌then◌else◌}
use Rattle.bfd_num.specs.Numbers.{moment_bound, greatest_tick}
use Rattle.bfd_packet.specs.declared.arrival.Arrival.{Arrival}
use Rattle.bfd_rules.specs.declared.commands.Cmd.{Cmd}
use Rattle.bfd_rules.specs.declared.commands.Cmd.TheVariants as cmd
use Rattle.bfd_script.specs.declared.line.entries.Line.{Line}
use Rattle.bfd_script.specs.declared.line.entries.Line.TheVariants as events
use Rattle.bfd_c.specs.declared.wire.Packet.{Packet}
use Rattle.bfd_c.specs.Engines.{Instance, asked}
use Rattle.bfd_c.specs.Sizes.{packet_size, sized}
use Rattle.bfd_c.specs.Wire.{arrival_from_c}

-- a tick, in milliseconds
abbrev pub tick_line : ℕ → Option Line
tick_line t = if nat_le t greatest_tick then Some (events.Tick t) else None

-- a question to the session of a discriminator
abbrev pub show_line : ℕ → ℕ → Option Line
show_line moment discr = if nat_lt moment moment_bound && nat_le 1 discr then Some (events.Show moment discr) else None

-- a command by its number; commands without a value ignore it
abbrev pub cmd_of : ℕ → ℕ → Option Cmd
cmd_of verb value =
    if verb == 1 then Some cmd.Disable
    else if verb == 2 then Some cmd.Enable
    else if verb == 3 then Some cmd.Reset
    else if verb == 4 then Some (cmd.Path value)
    else if verb == 5 then Some (cmd.Tx value)
    else if verb == 6 then Some (cmd.Rx value)
    else if verb == 7 then Some (cmd.Mult value)
    else if verb == 8 then Some (cmd.Demand value)
    else if verb == 9 then Some (cmd.EchoEvery value)
    else if verb == 10 then Some (cmd.Key value)
    else None

-- a command to the session of a discriminator
abbrev pub command_by : ℕ → ℕ → Option Cmd → Option Line
command_by moment discr None = None
command_by moment discr (Some command) = Some (events.Cmd moment discr command)

abbrev pub command_line : ℕ → ℕ → ℕ → ℕ → Option Line
command_line moment discr verb value =
    if nat_lt moment moment_bound && nat_le 1 discr then command_by moment discr (cmd_of verb value) else None

-- a packet that came in
abbrev pub rx_by : ℕ → Option Arrival → Option Line
rx_by moment None = None
rx_by moment (Some arrival) = Some (events.Rx moment arrival)

abbrev pub packet_line : Packet → List ℕ → Option Line
packet_line packet payload = if nat_lt packet.moment moment_bound then rx_by packet.moment (arrival_from_c packet payload) else None

-- an engine after it has received that packet, and the code
abbrev pub packet_asked : Packet → List ℕ → Instance → Instance × ℕ
packet_asked packet payload e = sized (packet.size == packet_size) (λ code. (e, code)) (asked (packet_line packet payload) e)
