-- The reception of a head's packet after settling (RFC 8562 sections 5.5 and 5.13, RFC 5880 section 6.8.6): the tail's
-- discard tests, then its rules in order.
use Rattle.std.specs.Prelude.{ℕ, ◌≢◌, ◌<◌, ◌^◌, if◌then◌else◌, Some, List}
use Rattle.bfd_packet.specs.declared.control.State.{State}
use Rattle.bfd_packet.specs.declared.control.State.TheVariants.{AdminDown, Down, Up}
use Rattle.bfd_packet.specs.declared.control.Control.{Control}
use Rattle.bfd_packet.specs.declared.discard.Test.TheVariants.{AuthUnexpected, AdminDown as DiscardAdminDown}
use Rattle.bfd_packet.specs.Layout.{fields_of}
use Rattle.bfd_rules.specs.declared.variables.Vars.{Vars}
use Rattle.bfd_rules.specs.declared.verdict.Verdict.{Verdict}
use Rattle.bfd_rules.specs.declared.verdict.Verdict.TheVariants.{Accepted, Dropped}
use Rattle.bfd_rules.specs.Quantities.{is_admin_down}
use Rattle.bfd_rules.specs.EventFrame.{Course, changes, enters}
use Rattle.bfd_mp.specs.declared.config.TailConfig.{TailConfig}

-- the numbers of a packet that a tail keeps fit their fields, and its Detect Mult isn't 0, as in every packet of bytes that
-- passes the header tests
pub record IsSized (packet : Control) : Type 0 where
  pub some_mult : packet.mult ≢ 0
  pub mult : packet.mult < 256
  pub min_tx : packet.min_tx < 2 ^ 32

-- 1. The head's state, Detect Mult and interval are kept, and the moment of its packet
unfoldable pub keeps_fields : ℕ → Control → Course → Course
keeps_fields eff packet s =
    record s {
      vars = record s.vars { remote_state = packet.state; remote_mult = packet.mult; remote_tx = packet.min_tx; heard = Some eff };
    }

-- the state machine: own state, received state (RFC 8562 section 5.5); Init changes no state
abbrev pub machine : State → State → Vars → Vars
machine Down Up v = enters Up v.diag v
machine Up Down v = enters Down 3 v
machine Up AdminDown v = enters Down 3 v
machine _ _ v = v

-- 2. The state machine receives the head's state
unfoldable pub moves_state : TailConfig → Control → Course → Course
moves_state c packet s = changes c.discr (machine s.vars.state packet.state s.vars) s

-- in AdminDown the fields are kept and nothing more is done; P is never answered (RFC 8562 section 5.10)
unfoldable pub accepted : TailConfig → ℕ → Control → Course → Course
accepted c eff packet s =
    let t : Course = keeps_fields eff packet s in
    if is_admin_down t.vars.state then t else moves_state c packet t

-- a packet with A set changes nothing: a tail uses no authentication
unfoldable pub received : TailConfig → ℕ → List ℕ → Course → Course
received c eff raw s = if (fields_of raw).auth then s else accepted c eff (fields_of raw) s

-- its verdict: the first test that fails, the one on AdminDown last
abbrev pub verdict_by : State → Verdict
verdict_by state = if is_admin_down state then Dropped DiscardAdminDown else Accepted

abbrev pub verdict_on : List ℕ → Vars → Verdict
verdict_on raw v = if (fields_of raw).auth then Dropped AuthUnexpected else verdict_by v.state
