-- Commands (RFC 5880 sections 6.8.10 to 6.8.17): each is refused by the first test of a list, or done.
use Rattle.std.specs.Prelude.{ℕ, ◌==◌, ◌&&◌, ◌||◌, nat_le, not, Bool, false, if◌then◌else◌, Option, None, Some, is_some, is_none, unwrap_or}
use Rattle.std.specs.Prelude.{[], ◌∷◌, find}
use Rattle.bfd_packet.specs.declared.control.State.TheVariants.{AdminDown, Down}
use Rattle.bfd_packet.specs.KeyChain.{KeyChain, place_of}
use Rattle.bfd_rules.specs.declared.config.Config.{Config}
use Rattle.bfd_rules.specs.declared.commands.Cmd.{Cmd}
use Rattle.bfd_rules.specs.declared.commands.Cmd.TheVariants.{Disable, Enable, Reset, Path, Tx, Rx, Mult, Demand, EchoEvery, Key}
use Rattle.bfd_rules.specs.declared.commands.Refusal.{Refusal}
use Rattle.bfd_rules.specs.declared.commands.Refusal.TheVariants.{PollBusy, WrongState, OutOfRange, WrongKind, UnknownSession}
use Rattle.bfd_rules.specs.declared.variables.Poll.TheVariants.{Wanted}
use Rattle.bfd_rules.specs.declared.variables.Vars.{Vars}
use Rattle.bfd_rules.specs.Quantities.{is_up, is_idle, is_admin_down, demand_there}
use Rattle.bfd_rules.specs.EventFrame.{Course, enters}
use Rattle.bfd_rules.specs.Sound.{is_interval}
use Rattle.bfd_p2p.specs.Frame.{moves}
use Rattle.bfd_p2p.specs.Receive.{is_single}

-- the place of the key with this id, among the keys of a session that has some
abbrev pub key_place : Option KeyChain → ℕ → Option ℕ
key_place None id = None
key_place (Some keys) id = place_of id keys.list

-- sessions of this kind don't know the command: the Echo function over several hops, a key without authentication
abbrev pub is_wrong_kind : Config → Cmd → Bool
is_wrong_kind c (EchoEvery n) = not (is_single c.role)
is_wrong_kind c (Key n) = is_none c.keys
is_wrong_kind c _ = false

-- the number is outside its range
abbrev pub is_out_of_range : Config → Cmd → Bool
is_out_of_range c (Path n) = not ((n == 0) || (n == 6) || (n == 8))
is_out_of_range c (Tx n) = not (is_interval n)
is_out_of_range c (Rx n) = not (is_interval n)
is_out_of_range c (Mult n) = not (nat_le 1 n && nat_le n 255)
is_out_of_range c (Demand n) = not ((n == 0) || (n == 1))
is_out_of_range c (EchoEvery n) = not ((n == 0) || is_interval n)
is_out_of_range c (Key n) = is_none (key_place c.keys n)
is_out_of_range c _ = false

-- AdminDown can't be entered twice, nor left by reset; only AdminDown can be left by enable
abbrev pub is_wrong_state : Vars → Cmd → Bool
is_wrong_state v Disable = is_admin_down v.state
is_wrong_state v Reset = is_admin_down v.state
is_wrong_state v Enable = not (is_admin_down v.state)
is_wrong_state v _ = false

-- in Up one Poll Sequence must end before another is asked for
abbrev pub is_poll_busy : Vars → Cmd → Bool
is_poll_busy v (Tx n) = is_up v.state && not (is_idle v.poll)
is_poll_busy v (Rx n) = is_up v.state && not (is_idle v.poll)
is_poll_busy v (Demand n) = is_up v.state && not (is_idle v.poll)
is_poll_busy v _ = false

-- the sentence of each refusal
abbrev pub is_refused_by : Config → Vars → Cmd → Refusal → Bool
is_refused_by c v cmd WrongKind = is_wrong_kind c cmd
is_refused_by c v cmd OutOfRange = is_out_of_range c cmd
is_refused_by c v cmd WrongState = is_wrong_state v cmd
is_refused_by c v cmd PollBusy = is_poll_busy v cmd
is_refused_by c v cmd UnknownSession = false

-- the first refusal in their order
abbrev pub refusal : Config → Vars → Cmd → Option Refusal
refusal c v cmd = find (is_refused_by c v cmd) (WrongKind ∷ OutOfRange ∷ WrongState ∷ PollBusy ∷ [])

-- the diagnostic of a concatenated path; if Demand mode is active on the remote system, a Poll Sequence carries it (section 6.8.17)
abbrev pub path_done : ℕ → Vars → Vars
path_done n v = record v { diag = n; poll = if demand_there v then Wanted else v.poll }

-- Demand mode is turned on or off; in Up a Poll Sequence confirms a change (sections 6.6 and 6.8.14)
abbrev pub demand_done : Bool → Vars → Vars
demand_done on v =
    record v { demand = on; poll = if is_up v.state && (if v.demand then not on else on) then Wanted else v.poll }

-- the variables after each command (in this order: sections 6.8.16, 6.8.15, 6.8.17, 6.8.11, 6.8.10, 6.8.12,
-- 6.8.14, 6.8.13, and 6.7.2 to 6.7.4)
abbrev pub done : Config → Cmd → Vars → Vars
done c Disable v = enters AdminDown 7 v
done c Enable v = enters Down v.diag v
done c Reset v = enters Down 4 v
done c (Path n) v = path_done n v
done c (Tx n) v = record v { tx = n }
done c (Rx n) v = record v { rx = n }
done c (Mult n) v = record v { mult = n }
done c (Demand n) v = demand_done (n == 1) v
done c (EchoEvery n) v = record v { echo_every = n }
done c (Key n) v = record v { sending = unwrap_or (key_place c.keys n) v.sending }

-- a command is done, or refused and changes nothing
unfoldable pub commanded : Config → ℕ → Cmd → Course → Course
commanded c eff cmd s =
    if is_some (refusal c s.vars cmd) then s else moves c.discr eff (done c cmd s.vars) s
