-- The reception of a control packet after settling (RFC 5880 section 6.8.6): the session's discard tests, then its
-- rules in order.
use Rattle.std.specs.Prelude.{ℕ, ◌<◌, ◌^◌, ◌==◌, ◌&&◌, not, Bool, true, false, if◌then◌else◌, Option, None, Some, is_some, is_none, Result}
use Rattle.std.specs.Prelude.{Ok, Err, List, [], ◌∷◌, take, find}
use Rattle.bfd_packet.specs.declared.control.State.{State}
use Rattle.bfd_packet.specs.declared.control.State.TheVariants.{AdminDown, Down, Init, Up}
use Rattle.bfd_packet.specs.declared.control.Control.{Control}
use Rattle.bfd_packet.specs.declared.discard.Test.{Test}
use Rattle.bfd_packet.specs.declared.discard.Test.TheVariants.{Ttl, AuthUnexpected, AuthMissing, AdminDown as DiscardAdminDown}
use Rattle.bfd_packet.specs.declared.keys.SeqState.{SeqState}
use Rattle.bfd_packet.specs.KeyChain.{KeyChain, is_password}
use Rattle.bfd_packet.specs.Layout.{fields_of}
use Rattle.bfd_auth.specs.Verdict.{verdict}
use Rattle.bfd_rules.specs.declared.config.Role.{Role}
use Rattle.bfd_rules.specs.declared.config.Role.TheVariants.{Single, Multi}
use Rattle.bfd_rules.specs.declared.config.Config.{Config}
use Rattle.bfd_rules.specs.declared.variables.Poll.{Poll}
use Rattle.bfd_rules.specs.declared.variables.Poll.TheVariants.{Idle, Wanted, Running}
use Rattle.bfd_rules.specs.declared.variables.Vars.{Vars}
use Rattle.bfd_rules.specs.declared.verdict.Verdict.{Verdict}
use Rattle.bfd_rules.specs.declared.verdict.Verdict.TheVariants.{Accepted, Dropped}
use Rattle.bfd_rules.specs.Quantities.{is_admin_down}
use Rattle.bfd_rules.specs.EventFrame.{Course, enters}
use Rattle.bfd_p2p.specs.Frame.{renews, moves}
use Rattle.bfd_p2p.specs.Transmit.{transmits}

-- the numbers of a packet that sessions keep fit their fields, as those of every packet of bytes do
pub record IsSized (packet : Control) : Type 0 where
  pub min_rx : packet.min_rx < 2 ^ 32
  pub mult : packet.mult < 256

-- the session runs over a single hop
abbrev pub is_single : Role → Bool
is_single Single = true
is_single Multi = false

-- the sentence of each test on a session's configuration, true of a packet that fails it
abbrev pub session_fails : Config → ℕ → Control → Test → Bool
session_fails c ttl packet Ttl = is_single c.role && is_none c.keys && not (ttl == 255)  -- RFC 5881 section 5
session_fails c ttl packet AuthUnexpected = packet.auth && is_none c.keys
session_fails c ttl packet AuthMissing = not packet.auth && is_some c.keys
session_fails c ttl packet _ = false

-- those tests, in their order
abbrev pub session_tests : List Test
session_tests = Ttl ∷ AuthUnexpected ∷ AuthMissing ∷ []

-- the verdict of authentication over the packet's Length bytes: the new sequence state, or the test that fails
abbrev pub authenticated : Option KeyChain → SeqState → Control → List ℕ → Result SeqState Test
authenticated None seq packet raw = Ok seq
authenticated (Some keys) seq packet raw = verdict keys seq (take packet.length raw)

-- the new sequence state, or the first of the session's tests that the packet fails
abbrev pub judged_by : Option Test → Result SeqState Test → Result SeqState Test
judged_by None verified = verified
judged_by (Some test) verified = Err test

abbrev pub judged : Config → Vars → ℕ → List ℕ → Result SeqState Test
judged c v ttl raw =
    judged_by (find (session_fails c ttl (fields_of raw)) session_tests) (authenticated c.keys v.seq (fields_of raw) raw)

-- the session's packets carry a sequence number: those of every type but Simple Password do (section 4.2)
abbrev pub has_sequence : Option KeyChain → Bool
has_sequence None = false
has_sequence (Some keys) = not (is_password keys.kind)

-- 1. The sequence state is kept (section 6.7)
unfoldable pub keeps_sequence : Config → ℕ → SeqState → Course → Course
keeps_sequence c eff seq s =
    renews eff (record s.vars { seq = seq; seq_heard = if has_sequence c.keys then Some eff else s.vars.seq_heard }) s

-- 2. The peer's fields are kept (section 6.8.6)
unfoldable pub keeps_fields : ℕ → Control → Course → Course
keeps_fields eff packet s =
    renews eff (record s.vars {
      remote_discr = packet.my;
      remote_state = packet.state;
      remote_demand = packet.demand;
      remote_min_rx = packet.min_rx;
      remote_min_echo = packet.min_echo;
      remote_mult = packet.mult;
      remote_tx = packet.min_tx;
      heard = Some eff;
    }) s

-- a running Poll Sequence has ended
abbrev pub poll_ended : Poll → Poll
poll_ended Idle = Idle
poll_ended Wanted = Wanted
poll_ended (Running first) = Idle

-- 3. F ends a running Poll Sequence (section 6.5)
unfoldable pub ends_poll : ℕ → Control → Course → Course
ends_poll eff packet s =
    if packet.fin then renews eff (record s.vars { poll = poll_ended s.vars.poll }) s else s

-- the state machine: own state, received state (sections 6.2 and 6.8.6)
abbrev pub machine : State → State → Vars → Vars
machine Down Down v = enters Init v.diag v
machine Down Init v = enters Up v.diag v
machine Init Init v = enters Up v.diag v
machine Init Up v = enters Up v.diag v
machine Init AdminDown v = enters Down 3 v
machine Up AdminDown v = enters Down 3 v
machine Up Down v = enters Down 3 v
machine _ _ v = v

-- 4. The state machine receives the peer's state
unfoldable pub moves_state : Config → ℕ → Control → Course → Course
moves_state c eff packet s = moves c.discr eff (machine s.vars.state packet.state s.vars) s

-- 5. P is answered immediately by a packet with F, whatever else may be sent (section 6.5)
unfoldable pub answers : Config → Control → Course → Course
answers c packet s =
    if packet.poll
    then (let sent : Course = transmits c false true s in record sent { mark = record s.mark { answered = true } })
    else s

-- what a packet that passes the tests changes, up to the test on AdminDown
unfoldable pub kept : Config → ℕ → Control → SeqState → Course → Course
kept c eff packet seq s = ends_poll eff packet (keeps_fields eff packet (keeps_sequence c eff seq s))

-- in AdminDown nothing more is done
unfoldable pub accepted : Config → ℕ → Control → SeqState → Course → Course
accepted c eff packet seq s =
    let t : Course = kept c eff packet seq s in
    if is_admin_down t.vars.state then t else answers c packet (moves_state c eff packet t)

-- a packet that passes the tests is accepted; one that fails a test changes nothing
unfoldable pub received_on : Config → ℕ → Control → Result SeqState Test → Course → Course
received_on c eff packet (Ok seq) s = accepted c eff packet seq s
received_on c eff packet (Err test) s = s

-- the reception of a packet that came with this TTL
unfoldable pub received : Config → ℕ → ℕ → List ℕ → Course → Course
received c eff ttl raw s = received_on c eff (fields_of raw) (judged c s.vars ttl raw) s

-- its verdict: the first test that fails, the one on AdminDown last
abbrev pub verdict_by : State → Result SeqState Test → Verdict
verdict_by state (Ok seq) = if is_admin_down state then Dropped DiscardAdminDown else Accepted
verdict_by state (Err test) = Dropped test

abbrev pub verdict_on : Config → ℕ → List ℕ → Vars → Verdict
verdict_on c ttl raw v = verdict_by v.state (judged c v ttl raw)
