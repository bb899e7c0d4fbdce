-- The row that an arrival names, and the tests up to there (RFC 5880 sections 6.3 and 6.8.6, RFC 5881, RFC 5883,
-- RFC 7880, RFC 8562).
use Rattle.std.specs.Prelude.{ℕ, Bool, true, false, not, ◌==◌, ◌&&◌, ◌||◌, nat_lt, Option, Some, None, List, [], ◌∷◌, ◌++◌, length, find}
use Rattle.std.specs.Prelude.{if◌then◌else◌}
use Rattle.std.specs.List.{filter, list_any}
use Rattle.std.specs.Option.{option_map}
use Rattle.bfd_packet.specs.declared.arrival.Arrival.{Arrival}
use Rattle.bfd_packet.specs.declared.arrival.Port.{Port}
use Rattle.bfd_packet.specs.declared.arrival.Port.TheVariants.{Single as SinglePort, Multi as MultiPort, Echo as EchoPort, Sbfd as SbfdPort}
use Rattle.bfd_packet.specs.declared.arrival.Port.TheVariants.{Answer as AnswerPort}
use Rattle.bfd_packet.specs.States.{is_init_or_up}
use Rattle.bfd_packet.specs.declared.discard.Test.{Test}
use Rattle.bfd_packet.specs.declared.discard.Test.TheVariants.{YourUnknown, YourZeroState, NoSession, MultipointYour, NoTail, EchoForm}
use Rattle.bfd_packet.specs.Layout.{fields_of, word_at}
use Rattle.bfd_packet.specs.HeaderTests.{header_fails, header_tests, takes_multipoint_of}
use Rattle.bfd_demux.specs.declared.row.Row.{Row}
use Rattle.bfd_demux.specs.declared.row.RowKind.{RowKind}
use Rattle.bfd_demux.specs.declared.row.RowKind.TheVariants.{Single, Multi, Initiator, Reflect, Tail}
use Rattle.bfd_demux.specs.declared.target.Target.{Target}
use Rattle.bfd_demux.specs.declared.target.Target.TheVariants.{Session, Reflector, Echo}
use Rattle.bfd_demux.specs.Rows.{same_selector}
use Rattle.bfd_demux.specs.Table.{how_many}

-- the row is of the port's kind; heads and tails are of no port's kind (RFC 5881 section 4, RFC 5883 section 5,
-- RFC 7881 section 2)
abbrev pub is_of_kind : Port → RowKind → Bool
is_of_kind SinglePort (Single _ _ _) = true
is_of_kind EchoPort (Single _ _ _) = true
is_of_kind MultiPort (Multi _ _) = true
is_of_kind AnswerPort Initiator = true
is_of_kind SbfdPort Reflect = true
is_of_kind _ _ = false

-- the row is of the port's kind and has this discriminator (RFC 5880 section 6.3)
abbrev pub row_has_discr : Port → ℕ → Row → Bool
row_has_discr port discr row = is_of_kind port row.kind && (row.discr == discr)

-- a row of the port's kind has this discriminator
abbrev pub knows : List Row → Port → ℕ → Bool
knows rows port discr = list_any (row_has_discr port discr) rows

-- the kind and addresses by which a packet without Your Discriminator names a row: on single the interface, the
-- destination as local and the source as remote, on multi the last two, and none elsewhere
abbrev pub selector_on : Port → Arrival → Option RowKind
selector_on SinglePort arrival = Some (Single arrival.iface arrival.dst arrival.src)
selector_on MultiPort arrival = Some (Multi arrival.dst arrival.src)
selector_on _ arrival = None

-- those of a multipoint packet: its My Discriminator, the interface, the destination as group and the source (RFC
-- 8562 section 5.7)
abbrev pub tail_selector : Arrival → Option RowKind
tail_selector arrival = Some (Tail (fields_of arrival.payload).my arrival.iface arrival.dst arrival.src)

-- the row has this kind and these addresses
abbrev pub row_has_selector : Option RowKind → Row → Bool
row_has_selector None row = false
row_has_selector (Some kind) row = same_selector kind row.kind

-- M is set on the port that receives multipoint packets (RFC 8562)
abbrev pub is_multipoint : Port → Arrival → Bool
is_multipoint port arrival = takes_multipoint_of port && (fields_of arrival.payload).multi

-- the arrival on this port names the row: an echo packet by its second word, a multipoint packet by its tail's kind and
-- addresses. Any other names it by Your Discriminator, or by addresses if that is 0
abbrev pub names_on : Port → Arrival → Row → Bool
names_on EchoPort arrival row = row_has_discr EchoPort (word_at 4 arrival.payload) row
names_on port arrival row =
    if is_multipoint port arrival then row_has_selector (tail_selector arrival) row
    else if (fields_of arrival.payload).your == 0 then row_has_selector (selector_on port arrival) row
    else row_has_discr port (fields_of arrival.payload).your row

-- the element of a list of one
abbrev pub only : {X : Type 0} → List X → Option X
only [] = None
only (x ∷ []) = Some x
only (x ∷ y ∷ xs) = None

-- the one row that passes the test
abbrev pub the_one : (Row → Bool) → List Row → Option Row
the_one test rows = only (filter test rows)

-- the one row that the arrival names (RFC 5880 sections 6.3 and 6.8.6)
abbrev pub selected : List Row → Arrival → Option Row
selected rows arrival = the_one (names_on arrival.port arrival) rows

-- the payload has the form of this engine's echo packets: 16 bytes, the sign "BFDe", two words, and 0
abbrev pub is_echo_form : List ℕ → Bool
is_echo_form payload = (length payload == 16) && (word_at 0 payload == 0x4246_4465) && (word_at 12 payload == 0)

-- the discriminator isn't known on the port. An echo packet's is its second word. In a packet to a reflector 0 is
-- unknown; in any other it isn't
abbrev pub is_unknown : Port → List Row → Arrival → Bool
is_unknown EchoPort rows arrival = not (knows rows EchoPort (word_at 4 arrival.payload))
is_unknown SbfdPort rows arrival = ((fields_of arrival.payload).your == 0) || not (knows rows SbfdPort (fields_of arrival.payload).your)
is_unknown port rows arrival = not ((fields_of arrival.payload).your == 0) && not (knows rows port (fields_of arrival.payload).your)

-- the sentence of each test up to selection, true of an arrival on this port that fails it (RFC 5880 section
-- 6.8.6, RFC 8562 section 5.13)
abbrev pub table_fails : Port → Test → List Row → Arrival → Bool
table_fails port YourUnknown rows arrival = is_unknown port rows arrival
table_fails port YourZeroState rows arrival = ((fields_of arrival.payload).your == 0) && is_init_or_up (fields_of arrival.payload).state
table_fails port NoSession rows arrival = ((fields_of arrival.payload).your == 0)
    && not (list_any (row_has_selector (selector_on port arrival)) rows)
table_fails port MultipointYour rows arrival = is_multipoint port arrival && not ((fields_of arrival.payload).your == 0)
table_fails port NoTail rows arrival = is_multipoint port arrival && not (list_any (row_has_selector (tail_selector arrival)) rows)
table_fails port EchoForm rows arrival = not (is_echo_form arrival.payload)
table_fails port test rows arrival = header_fails test arrival.payload

-- the port's tests on the header: an echo packet has none
abbrev pub tests_on_header : Port → List Test
tests_on_header EchoPort = []
tests_on_header port = header_tests port

-- the port's tests on the table, by whether M is set
abbrev pub tests_on_table : Port → Bool → List Test
tests_on_table EchoPort multipoint = EchoForm ∷ YourUnknown ∷ []
tests_on_table SbfdPort multipoint = YourUnknown ∷ []
tests_on_table port multipoint = if multipoint then MultipointYour ∷ NoTail ∷ [] else YourUnknown ∷ YourZeroState ∷ NoSession ∷ []

-- the first of the tests on the header that the arrival fails
abbrev pub first_header_failing : Arrival → Option Test
first_header_failing arrival = find (λ test. header_fails test arrival.payload) (tests_on_header arrival.port)

-- the first of the tests up to selection that an arrival on this port fails
abbrev pub first_failing_on : Port → List Row → Arrival → Option Test
first_failing_on port rows arrival = find (λ test. table_fails port test rows arrival)
    (tests_on_header port ++ tests_on_table port (is_multipoint port arrival))

-- the first of the tests up to selection that the arrival fails, in the order of its port
abbrev pub first_table_failing : List Row → Arrival → Option Test
first_table_failing rows arrival = first_failing_on arrival.port rows arrival

-- the row is a session, and no reflector
abbrev pub is_session : RowKind → Bool
is_session Reflect = false
is_session _ = true

-- a session's place among the session rows in ascending order: how many have a lower discriminator
abbrev pub session_index : List Row → ℕ → ℕ
session_index rows discr = how_many (λ row. is_session row.kind && nat_lt row.discr discr) rows

-- a reflector's place among the reflector rows
abbrev pub reflector_index : List Row → ℕ → ℕ
reflector_index rows discr = how_many (λ row. not (is_session row.kind) && nat_lt row.discr discr) rows

-- what an arrival on this port that names the row is for; an echo packet's third word is its sequence number
abbrev pub target_on : Port → List Row → Arrival → Row → Target
target_on EchoPort rows arrival row = Echo (session_index rows row.discr) (word_at 8 arrival.payload)
target_on SbfdPort rows arrival row = Reflector (reflector_index rows row.discr)
target_on port rows arrival row = Session (session_index rows row.discr)

-- what an arrival that fails no test is for
abbrev pub target_of : List Row → Arrival → Option Target
target_of rows arrival = option_map (target_on arrival.port rows arrival) (selected rows arrival)

-- the arrival on this port is looked up by addresses: a multipoint packet, and one whose Your Discriminator is 0
abbrev pub is_by_addresses : Port → Arrival → Bool
is_by_addresses EchoPort arrival = false
is_by_addresses SbfdPort arrival = false
is_by_addresses port arrival = is_multipoint port arrival || ((fields_of arrival.payload).your == 0)
