-- The session states (RFC 5880 section 6.2).
use Rattle.std.specs.Prelude.{ℕ, List, Bool, true, false, codes}
use Rattle.bfd_packet.specs.declared.control.State.{State}
use Rattle.bfd_packet.specs.declared.control.State.TheVariants.{AdminDown, Down, Init, Up}

-- a session in this state has heard its peer
abbrev pub is_init_or_up : State → Bool
is_init_or_up Init = true
is_init_or_up Up = true
is_init_or_up _ = false

-- the name of a session state (section 4.1)
abbrev pub state_name : State → List ℕ
state_name AdminDown = codes "AdminDown"
state_name Down = codes "Down"
state_name Init = codes "Init"
state_name Up = codes "Up"
