-- The results of the parts of a selection, each for its kind of packet. Together they are the definitions of Selection.
use Rattle.std.specs.Prelude.{ℕ, Bool, false, not, ◌==◌, ◌&&◌, Option, Some, None, List, [], ◌∷◌, find, if◌then◌else◌}
use Rattle.std.specs.List.{list_any}
use Rattle.std.specs.Option.{option_map}
use Rattle.bfd_packet.specs.declared.arrival.Arrival.{Arrival}
use Rattle.bfd_packet.specs.declared.arrival.Port.{Port}
use Rattle.bfd_packet.specs.declared.arrival.Port.TheVariants.{Echo as EchoPort, Sbfd as SbfdPort}
use Rattle.bfd_packet.specs.declared.control.Control.{Control}
use Rattle.bfd_packet.specs.declared.discard.Test.{Test}
use Rattle.bfd_packet.specs.declared.discard.Test.TheVariants.{YourUnknown, YourZeroState, NoSession, EchoForm}
use Rattle.bfd_packet.specs.Layout.{word_at}
use Rattle.bfd_packet.specs.States.{is_init_or_up}
use Rattle.bfd_demux.specs.declared.row.Row.{Row}
use Rattle.bfd_demux.specs.declared.row.RowKind.{RowKind}
use Rattle.bfd_demux.specs.declared.target.Target.{Target}
use Rattle.bfd_demux.specs.declared.target.Target.TheVariants.{Echo}
use Rattle.bfd_demux.specs.Selection.{row_has_discr, row_has_selector, is_echo_form, is_multipoint, knows, names_on, reflector_index}
use Rattle.bfd_demux.specs.Selection.{session_index, table_fails, target_on, tests_on_table, the_one}

-- the first of the port's tests on the table that the arrival fails
abbrev pub first_past_header : Port → List Row → Arrival → Option Test
first_past_header port rows arrival = find (λ test. table_fails port test rows arrival) (tests_on_table port (is_multipoint port arrival))

-- what an arrival on this port that fails no test is for
abbrev pub target_named : Port → List Row → Arrival → Option Target
target_named port rows arrival = option_map (target_on port rows arrival) (the_one (names_on port arrival) rows)

-- the first of an echo packet's tests that it fails
abbrev pub first_echo_failing : List Row → List ℕ → Option Test
first_echo_failing rows payload =
    if not (is_echo_form payload) then Some EchoForm
    else if not (knows rows EchoPort (word_at 4 payload)) then Some YourUnknown
    else None

-- what an echo packet of the row is for: its third word is its sequence number
abbrev pub echo_target : List Row → List ℕ → Row → Target
echo_target rows payload row = Echo (session_index rows row.discr) (word_at 8 payload)

-- the sentence of each test of a packet that is neither multipoint nor a reflector's: by its fields, and by the
-- kind and addresses that name a row when Your Discriminator is 0
abbrev pub selection_fails : Port → Test → Control → Option RowKind → List Row → Bool
selection_fails port YourUnknown packet selector rows = not (packet.your == 0) && not (knows rows port packet.your)
selection_fails port YourZeroState packet selector rows = (packet.your == 0) && is_init_or_up packet.state
selection_fails port NoSession packet selector rows = (packet.your == 0) && not (list_any (row_has_selector selector) rows)
selection_fails port _ packet selector rows = false

-- the first of them that fails
abbrev pub first_session_failing : Port → Control → Option RowKind → List Row → Option Test
first_session_failing port packet selector rows = find (λ test. selection_fails port test packet selector rows)
    (YourUnknown ∷ YourZeroState ∷ NoSession ∷ [])

-- such a packet names the row
abbrev pub names_session : Port → Control → Option RowKind → Row → Bool
names_session port packet selector row = if packet.your == 0 then row_has_selector selector row else row_has_discr port packet.your row

-- the index of a row that the port selects among
abbrev pub index_on : Port → List Row → ℕ → ℕ
index_on SbfdPort rows discr = reflector_index rows discr
index_on _ rows discr = session_index rows discr
