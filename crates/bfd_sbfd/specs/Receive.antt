-- The reception of a reflector's answer after settling (RFC 7880 sections 7.3.1 and 7.3.3, RFC 5880 section 6.8.6): the
-- initiator's discard tests, then its rules in order.
use Rattle.std.specs.Prelude.{ℕ, if◌then◌else◌, Some, List}
use Rattle.bfd_packet.specs.declared.control.State.{State}
use Rattle.bfd_packet.specs.declared.control.State.TheVariants.{AdminDown, Down, Up}
use Rattle.bfd_packet.specs.declared.control.Control.{Control}
use Rattle.bfd_packet.specs.declared.discard.Test.TheVariants.{AuthUnexpected, AdminDown as DiscardAdminDown}
use Rattle.bfd_packet.specs.Layout.{fields_of}
use Rattle.bfd_rules.specs.declared.variables.Vars.{Vars}
use Rattle.bfd_rules.specs.declared.verdict.Verdict.{Verdict}
use Rattle.bfd_rules.specs.declared.verdict.Verdict.TheVariants.{Accepted, Dropped}
use Rattle.bfd_rules.specs.Quantities.{is_admin_down}
use Rattle.bfd_rules.specs.EventFrame.{Course, enters}
use Rattle.bfd_sbfd.specs.declared.config.InitiatorConfig.{InitiatorConfig}
use Rattle.bfd_sbfd.specs.Frame.{moves}

-- 1. The reflector's state and the interval that it asks for are kept, and the moment of its answer
unfoldable pub keeps_fields : ℕ → Control → Course → Course
keeps_fields eff packet s =
    record s { vars = record s.vars { remote_state = packet.state; remote_min_rx = packet.min_rx; heard = Some eff } }

-- the state machine: own state, received state (RFC 7880 section 7.3.1)
abbrev pub machine : State → State → Vars → Vars
machine Down Up v = enters Up v.diag v
machine Up AdminDown v = enters Down 3 v
machine _ _ v = v

-- 2. The state machine receives the reflector's state
unfoldable pub moves_state : InitiatorConfig → Control → Course → Course
moves_state c packet s = moves c.discr (machine s.vars.state packet.state s.vars) s

-- in AdminDown the fields are kept and nothing more is done; P is never answered
unfoldable pub accepted : InitiatorConfig → ℕ → Control → Course → Course
accepted c eff packet s =
    let t : Course = keeps_fields eff packet s in
    if is_admin_down t.vars.state then t else moves_state c packet t

-- an answer with A set changes nothing: an initiator uses no authentication
unfoldable pub received : InitiatorConfig → ℕ → List ℕ → Course → Course
received c eff raw s = if (fields_of raw).auth then s else accepted c eff (fields_of raw) s

-- its verdict: the first test that fails, the one on AdminDown last
abbrev pub verdict_by : State → Verdict
verdict_by state = if is_admin_down state then Dropped DiscardAdminDown else Accepted

abbrev pub verdict_on : List ℕ → Vars → Verdict
verdict_on raw v = if (fields_of raw).auth then Dropped AuthUnexpected else verdict_by v.state
