-- Commands to an initiator: each is refused by the first test of a list, or done.
use Rattle.std.specs.Prelude.{◌&&◌, nat_le, not, Bool, true, false, if◌then◌else◌, Option, is_some, [], ◌∷◌, find}
use Rattle.bfd_packet.specs.declared.control.State.TheVariants.{AdminDown, Down}
use Rattle.bfd_rules.specs.declared.commands.Cmd.{Cmd}
use Rattle.bfd_rules.specs.declared.commands.Cmd.TheVariants.{Disable, Enable, Tx, Mult}
use Rattle.bfd_rules.specs.declared.commands.Refusal.{Refusal}
use Rattle.bfd_rules.specs.declared.commands.Refusal.TheVariants.{WrongState, OutOfRange, WrongKind}
use Rattle.bfd_rules.specs.declared.variables.Vars.{Vars}
use Rattle.bfd_rules.specs.Quantities.{is_admin_down}
use Rattle.bfd_rules.specs.EventFrame.{Course, enters}
use Rattle.bfd_rules.specs.Sound.{is_interval}
use Rattle.bfd_sbfd.specs.declared.config.InitiatorConfig.{InitiatorConfig}
use Rattle.bfd_sbfd.specs.Frame.{moves}

-- an initiator knows four commands: it has no Required Min RX, path, Demand mode, Echo function or key to set
abbrev pub is_wrong_kind : Cmd → Bool
is_wrong_kind Disable = false
is_wrong_kind Enable = false
is_wrong_kind (Tx n) = false
is_wrong_kind (Mult n) = false
is_wrong_kind _ = true

-- the number is outside its range
abbrev pub is_out_of_range : Cmd → Bool
is_out_of_range (Tx n) = not (is_interval n)
is_out_of_range (Mult n) = not (nat_le 1 n && nat_le n 255)
is_out_of_range _ = false

-- AdminDown can't be entered twice, and only AdminDown can be left by enable
abbrev pub is_wrong_state : Vars → Cmd → Bool
is_wrong_state v Disable = is_admin_down v.state
is_wrong_state v Enable = not (is_admin_down v.state)
is_wrong_state v _ = false

-- the sentence of each refusal; without Poll Sequences none is ever busy
abbrev pub is_refused_by : Vars → Cmd → Refusal → Bool
is_refused_by v cmd WrongKind = is_wrong_kind cmd
is_refused_by v cmd OutOfRange = is_out_of_range cmd
is_refused_by v cmd WrongState = is_wrong_state v cmd
is_refused_by v cmd _ = false

-- the first refusal in their order
abbrev pub refusal : Vars → Cmd → Option Refusal
refusal v cmd = find (is_refused_by v cmd) (WrongKind ∷ OutOfRange ∷ WrongState ∷ [])

-- the variables after each command (RFC 5880 sections 6.8.16, 6.8.11 and 6.8.12)
abbrev pub done : Cmd → Vars → Vars
done Disable v = enters AdminDown 7 v
done Enable v = enters Down v.diag v
done (Tx n) v = record v { tx = n }
done (Mult n) v = record v { mult = n }
done _ v = v

-- a command is done, or refused and changes nothing
unfoldable pub commanded : InitiatorConfig → Cmd → Course → Course
commanded c cmd s = if is_some (refusal s.vars cmd) then s else moves c.discr (done cmd s.vars) s
