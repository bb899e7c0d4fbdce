-- The Echo function as a part of a point-to-point session's event (RFC 5880 sections 6.8.5, 6.8.8 and 6.8.9).
use Rattle.std.specs.Prelude.{◌≡◌, ℕ, Bool, false, ◌&&◌, if◌then◌else◌, Option, None, Some, option_map}
use Rattle.bfd_num.specs.Numbers.{floor_tick}
use Rattle.bfd_num.specs.Due.{has_come}
use Rattle.bfd_rules.specs.declared.config.Config.{Config}
use Rattle.bfd_rules.specs.declared.variables.Vars.{Vars}
use Rattle.bfd_rules.specs.Quantities.{is_up}
use Rattle.bfd_rules.specs.EventFrame.{sends}
use Rattle.bfd_p2p.specs.Receive.{is_single}
use Rattle.bfd_p2p.specs.Frame.{moves}
use Rattle.bfd_p2p.specs.Machine.{failed}
use Rattle.bfd_echo.specs.declared.echo.Echo.{Echo}
use Rattle.bfd_echo.specs.declared.echo.EchoResult.{EchoResult}
use Rattle.bfd_echo.specs.declared.echo.EchoResult.TheVariants.{Nothing, Sent, Failed}
use Rattle.bfd_echo.specs.Packet.{echo_datagram}
use Rattle.bfd_echo.specs.Rules.{echo_begun, outcome, returned, settled}
use Rattle.bfd_echo.specs.Sequence.{is_outstanding}
use Rattle.bfd_echo.specs.Timing.{is_echo_wanted, echo_interval, due}
use Rattle.bfd_session.specs.Kinds.{Flow, along}

-- the Echo function should run: over a single hop, in Up, when both sides allow it (RFC 5880 section 6.8.9, RFC 5881
-- section 4; RFC 5883 section 3 forbids it over several hops)
abbrev pub should_echo : Config → Vars → Bool
should_echo c v = is_single c.role && (is_up v.state && is_echo_wanted v.echo_every v.remote_min_echo)

-- the running Echo function; one that should no longer run is ignored until the end of the event
abbrev pub echoing : Config → Vars → Option Echo → Option Echo
echoing c v echo = if should_echo c v then echo else None

-- the interval of echo packets
abbrev pub interval_of : Vars → ℕ
interval_of v = echo_interval v.echo_every v.remote_min_echo

-- the tick that the Echo function needs next
abbrev pub echo_due : Config → Vars → Option Echo → Option ℕ
echo_due c v echo = option_map (λ e. due e (interval_of v) v.mult) (echoing c v echo)

-- the result of settling it: nothing; a packet to the own address; or failure, and the session goes Down with diagnostic 2
abbrev pub settled_by : Config → ℕ → EchoResult → Echo → Flow → Flow
settled_by c eff Nothing after f = f
settled_by c eff (Sent bytes) after f =
    record f { course = sends c.discr (echo_datagram c.iface c.local bytes) f.course; echo = Some after }
settled_by c eff Failed after f = along f (moves c.discr eff (failed 2 f.course.vars) f.course)

abbrev pub settled_running : Config → ℕ → ℕ → Option Echo → Flow → Flow
settled_running c limit eff None f = f
settled_running c limit eff (Some e) f =
    let v : Vars = f.course.vars in
    settled_by c eff (outcome limit (interval_of v) v.mult c.discr e) (settled limit eff (interval_of v) v.mult e) f

-- what has come due of it by the limit is done: its failure, or else the sending of a packet
unfoldable pub settles_echo : Config → ℕ → ℕ → Flow → Flow
settles_echo c limit eff f = settled_running c limit eff (echoing c f.course.vars f.echo) f

-- the number is awaited
abbrev pub is_awaited : ℕ → Option Echo → Bool
is_awaited sequence None = false
is_awaited sequence (Some e) = is_outstanding e sequence

-- an echo packet with this number came back, for the running Echo function
abbrev pub back_to : ℕ → ℕ → Option Echo → Option Echo → Option Echo
back_to eff sequence None echo = echo
back_to eff sequence (Some e) echo = Some (returned eff sequence e)

abbrev pub takes_back : Config → ℕ → ℕ → Flow → Flow
takes_back c eff sequence f = record f { echo = back_to eff sequence (echoing c f.course.vars f.echo) f.echo }

-- a running Echo function goes on; else one begins, with the next number
abbrev pub goes_on : ℕ → ℕ → Option Echo → Echo
goes_on eff next None = echo_begun eff next
goes_on eff next (Some e) = e

-- at the end of an event the Echo function runs if and only if it should
abbrev pub echo_after : Config → ℕ → Vars → Option Echo → ℕ → Option Echo
echo_after c eff v echo next = if should_echo c v then Some (goes_on eff next echo) else None

-- and when one ends, its next number is the one that another begins with
abbrev pub number_by : Option Echo → ℕ → ℕ
number_by None next = next
number_by (Some e) next = e.next

abbrev pub number_after : Config → Vars → Option Echo → ℕ → ℕ
number_after c v echo next = if should_echo c v then next else number_by echo next

abbrev pub turns_echo : Config → ℕ → Flow → Flow
turns_echo c eff f =
    record f { echo = echo_after c eff f.course.vars f.echo f.echo_next; echo_next = number_after c f.course.vars f.echo f.echo_next }

-- nothing of it has come due by the limit
abbrev pub IsEchoOver : ℕ → Config → Vars → Option Echo → Type 0
IsEchoOver limit c v echo = has_come (floor_tick limit) (echo_due c v echo) ≡ false
