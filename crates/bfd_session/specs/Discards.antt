-- All tests that may discard an arrival which names a session, in their one order (RFC 5880 section 6.8.6): those on the
-- header and on the table, and then those of the session. Its variables are the ones after settling.
use Rattle.std.specs.Prelude.{ℕ, ◌||◌, Bool, false, Option, None, Some, List, [], ◌∷◌, ◌++◌, take, find}
use Rattle.bfd_packet.specs.declared.arrival.Arrival.{Arrival}
use Rattle.bfd_packet.specs.declared.discard.Test.{Test}
use Rattle.bfd_packet.specs.declared.discard.Test.TheVariants.{AuthUnexpected, AdminDown}
use Rattle.bfd_packet.specs.declared.keys.SeqState.{SeqState}
use Rattle.bfd_packet.specs.KeyChain.{KeyChain}
use Rattle.bfd_packet.specs.Layout.{fields_of}
use Rattle.bfd_auth.specs.Verdict.{section_fails, section_tests}
use Rattle.bfd_rules.specs.declared.config.Config.{Config}
use Rattle.bfd_rules.specs.declared.variables.Vars.{Vars}
use Rattle.bfd_rules.specs.declared.verdict.Verdict.{Verdict}
use Rattle.bfd_rules.specs.declared.verdict.Verdict.TheVariants.{Accepted, Dropped as Discarded}
use Rattle.bfd_rules.specs.Quantities.{is_admin_down}
use Rattle.bfd_p2p.specs.Receive as receive
use Rattle.bfd_demux.specs.declared.row.Row.{Row}
use Rattle.bfd_demux.specs.Selection.{is_multipoint, table_fails, tests_on_header, tests_on_table}
use Rattle.bfd_session.specs.declared.event.SessionConfig.{SessionConfig}
use Rattle.bfd_session.specs.declared.event.SessionConfig.TheVariants.{PointToPoint, Initiator, Head, Tail}
use Rattle.bfd_session.specs.declared.event.Answer.{Answer}
use Rattle.bfd_session.specs.declared.event.Answer.TheVariants.{Handled, Dropped}
use Rattle.bfd_session.specs.Kinds.{Running}
use Rattle.bfd_session.specs.Step.{settled, begun}

-- the sentence of each test on the authentication section
abbrev pub unauthentic : Option KeyChain → SeqState → List ℕ → Test → Bool
unauthentic None seq raw test = false
unauthentic (Some keys) seq raw test = section_fails keys seq raw test

-- the sentence of each test of a point-to-point session
abbrev pub point_fails : Config → Vars → ℕ → List ℕ → Test → Bool
point_fails c v ttl raw AdminDown = is_admin_down v.state
point_fails c v ttl raw test =
    receive.session_fails c ttl (fields_of raw) test || unauthentic c.keys v.seq (take (fields_of raw).length raw) test

-- those tests in their order: TTL and the A bit, the authentication section, AdminDown
abbrev pub point_tests : List Test
point_tests = receive.session_tests ++ (section_tests ++ AdminDown ∷ [])

-- the sentence of each test of a session that uses no authentication and looks at no TTL
abbrev pub plain_fails : Vars → List ℕ → Test → Bool
plain_fails v raw AuthUnexpected = (fields_of raw).auth
plain_fails v raw AdminDown = is_admin_down v.state
plain_fails v raw test = false

-- the sentence of each test of a session; a head receives no packets
abbrev pub own_fails : SessionConfig → Vars → Arrival → Test → Bool
own_fails (PointToPoint c) v arrival test = point_fails c v arrival.ttl arrival.payload test
own_fails (Initiator c) v arrival test = plain_fails v arrival.payload test
own_fails (Head c) v arrival test = false
own_fails (Tail c) v arrival test = plain_fails v arrival.payload test

-- the tests of a session: of an initiator (RFC 7880 section 7.3) and of a tail (RFC 8562 section 5.13) the A bit and AdminDown
abbrev pub own_tests : SessionConfig → List Test
own_tests (PointToPoint c) = point_tests
own_tests (Initiator c) = AuthUnexpected ∷ AdminDown ∷ []
own_tests (Head c) = []
own_tests (Tail c) = AuthUnexpected ∷ AdminDown ∷ []

-- the first of them that fails
abbrev pub first_own_failing : SessionConfig → Vars → Arrival → Option Test
first_own_failing c v arrival = find (own_fails c v arrival) (own_tests c)

-- the sentence of each test on an arrival that names this session
abbrev pub discards : List Row → SessionConfig → Vars → Arrival → Test → Bool
discards rows c v arrival test = table_fails arrival.port test rows arrival || own_fails c v arrival test

-- all tests in their order
abbrev pub all_tests : SessionConfig → Arrival → List Test
all_tests c arrival =
    (tests_on_header arrival.port ++ tests_on_table arrival.port (is_multipoint arrival.port arrival)) ++ own_tests c

-- the first test that fails, and so discards the arrival; with none it is handled
abbrev pub first_discarding : List Row → SessionConfig → Vars → Arrival → Option Test
first_discarding rows c v arrival = find (discards rows c v arrival) (all_tests c arrival)

-- the test that a verdict names
abbrev pub test_of : Verdict → Option Test
test_of Accepted = None
test_of (Discarded test) = Some test

-- the variables by which an own event's packet is judged: those after settling
abbrev pub judging : ℕ → Running → Vars
judging eff s = (settled s.config eff eff (begun (Some eff) s [])).course.vars

-- the answer to a packet, by the first test of the session that fails
abbrev pub answer_by : Option Test → Answer
answer_by None = Handled
answer_by (Some test) = Dropped test
