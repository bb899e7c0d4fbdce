-- Commands to heads and tails: each is refused by the first test of a list, or done.
use Rattle.std.specs.Prelude.{ℕ, ◌==◌, ◌&&◌, min, nat_le, not, Bool, true, false, if◌then◌else◌, Option, is_some, [], ◌∷◌, find}
use Rattle.bfd_packet.specs.declared.control.State.TheVariants.{AdminDown, Down, Up}
use Rattle.bfd_rules.specs.declared.commands.Cmd.{Cmd}
use Rattle.bfd_rules.specs.declared.commands.Cmd.TheVariants.{Disable, Enable, Tx, Mult}
use Rattle.bfd_rules.specs.declared.commands.Refusal.{Refusal}
use Rattle.bfd_rules.specs.declared.commands.Refusal.TheVariants.{PollBusy, WrongState, OutOfRange, WrongKind}
use Rattle.bfd_rules.specs.declared.variables.Vars.{Vars}
use Rattle.bfd_rules.specs.Quantities.{is_up, is_admin_down}
use Rattle.bfd_rules.specs.EventFrame.{Course, changes, enters}
use Rattle.bfd_rules.specs.Sound.{is_interval}
use Rattle.bfd_mp.specs.declared.config.HeadConfig.{HeadConfig}
use Rattle.bfd_mp.specs.declared.config.TailConfig.{TailConfig}
use Rattle.bfd_mp.specs.Counting.{counted}

-- a head knows four commands, a tail Disable and Enable alone
abbrev pub is_wrong_for_head : Cmd → Bool
is_wrong_for_head Disable = false
is_wrong_for_head Enable = false
is_wrong_for_head (Tx n) = false
is_wrong_for_head (Mult n) = false
is_wrong_for_head _ = true

abbrev pub is_wrong_for_tail : Cmd → Bool
is_wrong_for_tail Disable = false
is_wrong_for_tail Enable = false
is_wrong_for_tail _ = true

-- the number is outside its range
abbrev pub is_out_of_range : Cmd → Bool
is_out_of_range (Tx n) = not (is_interval n)
is_out_of_range (Mult n) = not (nat_le 1 n && nat_le n 255)
is_out_of_range _ = false

-- AdminDown can't be entered twice, and only AdminDown can be left by enable
abbrev pub is_wrong_state : Vars → Cmd → Bool
is_wrong_state v Disable = is_admin_down v.state
is_wrong_state v Enable = not (is_admin_down v.state)
is_wrong_state v _ = false

-- while packets with P are still to be sent, the interval can't be set again, not even to the same value
abbrev pub is_poll_busy : Vars → Cmd → Bool
is_poll_busy v (Tx n) = not (v.left == 0)
is_poll_busy v _ = false

-- the sentence of each refusal
abbrev pub is_head_refused_by : Vars → Cmd → Refusal → Bool
is_head_refused_by v cmd WrongKind = is_wrong_for_head cmd
is_head_refused_by v cmd OutOfRange = is_out_of_range cmd
is_head_refused_by v cmd WrongState = is_wrong_state v cmd
is_head_refused_by v cmd PollBusy = is_poll_busy v cmd
is_head_refused_by v cmd _ = false

abbrev pub is_tail_refused_by : Vars → Cmd → Refusal → Bool
is_tail_refused_by v cmd WrongKind = is_wrong_for_tail cmd
is_tail_refused_by v cmd WrongState = is_wrong_state v cmd
is_tail_refused_by v cmd _ = false

-- the first refusal in their order
abbrev pub head_refusal : Vars → Cmd → Option Refusal
head_refusal v cmd = find (is_head_refused_by v cmd) (WrongKind ∷ OutOfRange ∷ WrongState ∷ PollBusy ∷ [])

abbrev pub tail_refusal : Vars → Cmd → Option Refusal
tail_refusal v cmd = find (is_tail_refused_by v cmd) (WrongKind ∷ WrongState ∷ [])

-- a changed interval (RFC 8562 section 5.10): in Up the next packets carry P, as many as Detect Mult. Until they are sent, the lesser of
-- the new interval and the one in use is used. In AdminDown the new interval is used immediately. The same number is no change
abbrev pub interval_done : ℕ → Vars → Vars
interval_done n v =
    if n == v.tx then v
    else (if is_up v.state
    then record (counted v.mult v) { tx = n; used_tx = min v.used_tx n }
    else record v { tx = n; used_tx = n })

-- a head's variables after each command (RFC 8562 section 5.9, RFC 5880 sections 6.8.16, 6.8.11 and 6.8.12)
abbrev pub head_done : Cmd → Vars → Vars
head_done Disable v = counted 0 (enters AdminDown 7 v)
head_done Enable v = enters Up v.diag v
head_done (Tx n) v = interval_done n v
head_done (Mult n) v = record v { mult = n }
head_done _ v = v

-- and a tail's (RFC 5880 section 6.8.16)
abbrev pub tail_done : Cmd → Vars → Vars
tail_done Disable v = enters AdminDown 7 v
tail_done Enable v = enters Down v.diag v
tail_done _ v = v

-- a command is done, or refused and changes nothing
unfoldable pub head_commanded : HeadConfig → Cmd → Course → Course
head_commanded c cmd s = if is_some (head_refusal s.vars cmd) then s else changes c.discr (head_done cmd s.vars) s

unfoldable pub tail_commanded : TailConfig → Cmd → Course → Course
tail_commanded c cmd s = if is_some (tail_refusal s.vars cmd) then s else changes c.discr (tail_done cmd s.vars) s
