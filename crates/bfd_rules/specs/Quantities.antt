-- The quantities that a session's variables give (RFC 5880 sections 6.6 and 6.8.1 to 6.8.7).
-- Intervals and moments are in microseconds.
use Rattle.std.specs.Prelude.{ℕ, ◌+◌, ◌*◌, max, ◌==◌, Bool, true, false, not, ◌&&◌, ◌||◌, if◌then◌else◌, Option, None, Some, option_map}
use Rattle.bfd_packet.specs.declared.control.State.{State}
use Rattle.bfd_packet.specs.declared.control.State.TheVariants.{AdminDown, Down, Init, Up}
use Rattle.bfd_rules.specs.declared.variables.Poll.{Poll}
use Rattle.bfd_rules.specs.declared.variables.Poll.TheVariants.{Idle, Wanted, Running}
use Rattle.bfd_rules.specs.declared.variables.Vars.{Vars}

-- the state is Up
abbrev pub is_up : State → Bool
is_up AdminDown = false
is_up Down = false
is_up Init = false
is_up Up = true

-- the state is AdminDown
abbrev pub is_admin_down : State → Bool
is_admin_down AdminDown = true
is_admin_down Down = false
is_admin_down Init = false
is_admin_down Up = false

-- the states are the same
abbrev pub same_state : State → State → Bool
same_state AdminDown AdminDown = true
same_state Down Down = true
same_state Init Init = true
same_state Up Up = true
same_state _ _ = false

-- no Poll Sequence is on (section 6.5)
abbrev pub is_idle : Poll → Bool
is_idle Idle = true
is_idle Wanted = false
is_idle (Running first) = false

-- when the first packet of a running Poll Sequence was sent
abbrev pub poll_started : Poll → Option ℕ
poll_started Idle = None
poll_started Wanted = None
poll_started (Running first) = Some first

-- the Desired Min TX Interval that is advertised: at least one second unless the session is Up (section 6.8.3)
abbrev pub adv_tx : Vars → ℕ
adv_tx v = if is_up v.state then v.tx else max v.tx 1000000

-- the interval of periodic packets, before jitter (section 6.8.7)
abbrev pub tx_interval : Vars → ℕ
tx_interval v = max v.used_tx v.remote_min_rx

-- this session and its peer are Up, as far as this session knows
abbrev pub both_up : Vars → Bool
both_up v = is_up v.state && is_up v.remote_state

-- Demand mode is active on the local system (section 6.6)
abbrev pub demand_here : Vars → Bool
demand_here v = v.demand && both_up v

-- Demand mode is active on the remote system (section 6.6)
abbrev pub demand_there : Vars → Bool
demand_there v = v.remote_demand && both_up v

-- periodic packets may be sent: the peer accepts some; this side is active or knows the peer's discriminator; and
-- Demand mode isn't active on the remote system unless a Poll Sequence is on (sections 6.1, 6.6 and 6.8.7)
abbrev pub may_send : Bool → Vars → Bool
may_send active v =
    not (v.remote_min_rx == 0) && (active || not (v.remote_discr == 0)) && (not (demand_there v) || not (is_idle v.poll))

-- the Detection Time in Asynchronous mode: the peer's Detect Mult times the agreed interval of its packets (section 6.8.4)
abbrev pub detection_time : Vars → ℕ
detection_time v = v.remote_mult * max v.used_rx v.remote_tx

-- when the Detection Time expires, if it runs (section 6.8.4): in Demand mode the own Detect Mult times the own
-- interval after the first packet of a Poll Sequence; else the Detection Time after the last packet that was heard
abbrev pub deadline : Vars → Option ℕ
deadline v =
    if demand_here v
    then option_map (λ first. first + v.mult * tx_interval v) (poll_started v.poll)
    else option_map (λ heard. heard + detection_time v) v.heard

-- when the received sequence number is forgotten: two Detection Times after the last one (section 6.8.1, bfd.AuthSeqKnown)
abbrev pub seq_deadline : Vars → Option ℕ
seq_deadline v = option_map (λ heard. heard + 2 * detection_time v) v.seq_heard
