-- What the ports have in common: the tests and the target of each kind of packet.
use Rattle.bfd_demux.proofs.Common.{◌≡◌, ◌≢◌, ℕ, Bool, true, false, cond, not, ◌==◌, ◌&&◌, ◌||◌, List, [], ◌∷◌, ◌++◌, refl, sym, ◌∙◌, ap}
use Rattle.bfd_demux.proofs.Common.{arith, Option, Some, None, Result, Ok, Err, IfOk, find, if◌then◌else◌, IfSome, nat_tests, list_any}
use Rattle.bfd_demux.proofs.Common.{option_map, Port, YourUnknown, YourZeroState, NoSession, MultipointYour, NoTail, EchoForm, header_fails}
use Rattle.bfd_demux.proofs.Common.{read_of, unless, Row, RowKind, Tail, has_addresses, same_selector, only, the_one, names_on}
use Rattle.bfd_demux.proofs.Common.{row_has_discr, row_has_selector, selector_on, tail_selector, is_multipoint, is_by_addresses}
use Rattle.bfd_demux.proofs.Common.{is_echo_form, knows, session_index, reflector_index, table_fails, tests_on_header, tests_on_table}
use Rattle.bfd_demux.proofs.Common.{first_failing_on, names_session, index_on, target_named, echo_target, first_past_header}
use Rattle.bfd_demux.proofs.Common.{first_echo_failing, first_session_failing, filter_agree}
use Rattle.bfd_packet.specs.declared.arrival.Arrival.{Arrival}
use Rattle.bfd_packet.specs.declared.arrival.Port.TheVariants.{Single as SinglePort, Multi as MultiPort, Echo as EchoPort, Sbfd as SbfdPort}
use Rattle.bfd_packet.specs.declared.arrival.Port.TheVariants.{Answer as AnswerPort}
use Rattle.bfd_packet.specs.declared.control.Control.{Control}
use Rattle.bfd_packet.specs.declared.discard.Test.{Test}
use Rattle.bfd_packet.specs.Layout.{fields_of, word_at}
use Rattle.bfd_packet.specs.States.{is_init_or_up}
use Rattle.bfd_demux.specs.declared.target.Target.TheVariants.{Session, Reflector, Echo}

-- tests that agree name the same row
the_one_agree : (test other : Row → Bool) → ((row : Row) → test row ≡ other row) → (rows : List Row)
    → the_one test rows ≡ the_one other rows
the_one_agree test other same rows = ap only (filter_agree test other same rows)

find_more : {X : Type 0} (b : Bool) (x : X) {o rest later : Option X} → cond b (Some x) o ≡ None → (o ≡ None → rest ≡ later)
    → cond b (Some x) rest ≡ later
find_more true x none more = cc
find_more false x none more = more none

find-append : {X : Type 0} (test : X → Bool) (xs ys : List X) → find test xs ≡ None → find test (xs ++ ys) ≡ find test ys
find-append test [] ys none = refl
find-append test (x ∷ xs) ys none = find_more (test x) x none (find-append test xs ys)

-- the sentences of the tests on the header are those of the packet's crate
header_same : (port : Port) (rows : List Row) (arrival : Arrival) →
    find (λ test. table_fails port test rows arrival) (tests_on_header port)
    ≡ find (λ test. header_fails test arrival.payload) (tests_on_header port)
header_same EchoPort rows arrival = refl
header_same port rows arrival = refl

-- past the header: the tests on the table alone
past_header : (port : Port) (rows : List Row) (arrival : Arrival)
    → find (λ test. header_fails test arrival.payload) (tests_on_header port) ≡ None →
    first_past_header port rows arrival ≡ first_failing_on port rows arrival
past_header port rows arrival none =
    sym (find-append (λ test. table_fails port test rows arrival) (tests_on_header port) (tests_on_table port (is_multipoint port arrival))
    (header_same port rows arrival ∙ none))

found_more : {X : Type 0} (b : Bool) (x : X) {t : X} {o rest : Option X} → cond b (Some x) o ≡ Some t → (o ≡ Some t → rest ≡ Some t)
    → cond b (Some x) rest ≡ Some t
found_more true x some more = some
found_more false x some more = more some

find_front : {X : Type 0} (test : X → Bool) (xs ys : List X) (t : X) → find test xs ≡ Some t → find test (xs ++ ys) ≡ Some t
find_front test [] ys t some = cc
find_front test (x ∷ xs) ys t some = found_more (test x) x some (find_front test xs ys t)

-- a test on the header that fails comes before those on the table
header_first : (port : Port) (rows : List Row) (arrival : Arrival) {test : Test}
    → find (λ test. header_fails test arrival.payload) (tests_on_header port) ≡ Some test →
    Some test ≡ first_failing_on port rows arrival
header_first port rows arrival {test} some =
    sym (find_front (λ test. table_fails port test rows arrival) (tests_on_header port) (tests_on_table port (is_multipoint port arrival))
    test (header_same port rows arrival ∙ some))

-- what follows for an Ok
pub ok_then : {T E : Type 0} {P Q : T → Type 0} (r : Result T E) → ((t : T) → P t → Q t) → IfOk r P → IfOk r Q
ok_then (Ok t) follows h = follows t h
ok_then (Err e) follows h = h

pub ok_always : {T E : Type 0} {P : Type 0} (r : Result T E) → P → IfOk r (λ t. P)
ok_always (Ok t) p = p
ok_always (Err e) p = tt

-- an echo packet
pub echo_failing : (rows : List Row) (arrival : Arrival) → first_echo_failing rows arrival.payload ≡ first_failing_on EchoPort rows arrival
echo_failing rows arrival = refl

pub echo_named : (rows : List Row) (arrival : Arrival) →
    option_map (echo_target rows arrival.payload) (the_one (row_has_discr EchoPort (word_at 4 arrival.payload)) rows)
    ≡ target_named EchoPort rows arrival
echo_named rows arrival = refl

unequal : {n : ℕ} → n ≢ 0 → (n == 0) ≡ false
unequal some = grind (arith, nat_tests)

echo_some : (b : Bool) (words : ℕ × ℕ) {read : ℕ × ℕ} → Some read ≡ (if b then Some words else None) → (b ≡ true) × (read ≡ words)
echo_some true words is = (refl, cc)
echo_some false words is = cc

echo_none : (b : Bool) (words : ℕ × ℕ) → None ≡ (if b then Some words else None) → b ≡ false
echo_none true words is = cc
echo_none false words is = refl

-- the words of an echo packet
pub record IsEcho (payload : List ℕ) (discr sequence : ℕ) : Type 0 where
  pub form : is_echo_form payload ≡ true
  pub discr_is : discr ≡ word_at 4 payload
  pub sequence_is : sequence ≡ word_at 8 payload

pub echo_read : (payload : List ℕ) {discr sequence : ℕ} →
    ◌≡◌ {A = Option (ℕ × ℕ)} (Some (discr, sequence)) (if is_echo_form payload then Some (word_at 4 payload, word_at 8 payload) else None)
    → IsEcho payload discr sequence
echo_read payload is =
    let parts = echo_some (is_echo_form payload) (word_at 4 payload, word_at 8 payload) is in
    record { form = parts.0; discr_is = ap (λ words. words.0) parts.1; sequence_is = ap (λ words. words.1) parts.1 }

echo_tests : (form known : Bool) → Option Test
echo_tests form known = if not form then Some EchoForm else if not known then Some YourUnknown else None

-- a payload that is none
unformed : {form : Bool} (known : Bool) → form ≡ false → Some EchoForm ≡ echo_tests form known
unfolding echo_tests
unformed known is = rw is refl

pub no_echo_packet : (rows : List Row) (payload : List ℕ) →
    ◌≡◌ {A = Option (ℕ × ℕ)} None (if is_echo_form payload then Some (word_at 4 payload, word_at 8 payload) else None)
    → Some EchoForm ≡ first_echo_failing rows payload
unfolding echo_tests
no_echo_packet rows payload is = unformed (knows rows EchoPort (word_at 4 payload))
    (echo_none (is_echo_form payload) (word_at 4 payload, word_at 8 payload) is)

-- one whose session is known, or isn't
formed : {form : Bool} (known : Bool) → form ≡ true → (if known then None else Some YourUnknown) ≡ echo_tests form known
unfolding echo_tests
formed true is = rw is refl
formed false is = rw is refl

echo_by : (rows : List Row) {payload : List ℕ} {discr sequence : ℕ} {known : Bool} → IsEcho payload discr sequence
    → known ≡ knows rows EchoPort discr →
    (if known then None else Some YourUnknown) ≡ first_echo_failing rows payload
unfolding echo_tests
echo_by rows {payload} echo is = cc (formed (knows rows EchoPort (word_at 4 payload)) echo.form)

pub echo_known : (rows : List Row) {payload : List ℕ} {discr sequence : ℕ} → IsEcho payload discr sequence
    → true ≡ knows rows EchoPort discr → None ≡ first_echo_failing rows payload
echo_known rows echo is = echo_by rows echo is

pub echo_unknown : (rows : List Row) {payload : List ℕ} {discr sequence : ℕ} → IsEcho payload discr sequence
    → false ≡ knows rows EchoPort discr → Some YourUnknown ≡ first_echo_failing rows payload
echo_unknown rows echo is = echo_by rows echo is

to_echo : (rows : List Row) (word : ℕ) (found : Option Row) {index : ℕ}
    → Some index ≡ option_map (λ (row : Row). session_index rows row.discr) found →
    Some (Echo index word) ≡ option_map (λ (row : Row). Echo (session_index rows row.discr) word) found
to_echo rows word None is = cc
to_echo rows word (Some row) is = cc

-- the echo packet's session and number
pub echo_found : (rows : List Row) {payload : List ℕ} {discr sequence index : ℕ} → IsEcho payload discr sequence →
    Some index ≡ option_map (λ (row : Row). index_on EchoPort rows row.discr) (the_one (row_has_discr EchoPort discr) rows) →
    Some (Echo index sequence) ≡ option_map (echo_target rows payload) (the_one (row_has_discr EchoPort (word_at 4 payload)) rows)
echo_found rows {payload} echo is = cc (to_echo rows (word_at 8 payload) (the_one (row_has_discr EchoPort (word_at 4 payload)) rows)
    (is ∙ ap (λ word. option_map (λ (row : Row). session_index rows row.discr) (the_one (row_has_discr EchoPort word) rows)) echo.discr_is))

-- a reflector that is known, or isn't
pub reflects_none : {your : ℕ} (known : Bool) → your ≡ 0 → Some YourUnknown ≡ (if (your == 0) || not known then Some YourUnknown else None)
reflects_none known zero = rw zero refl

pub reflects : {your : ℕ} (known : Bool) → your ≢ 0
    → (if known then None else Some YourUnknown) ≡ (if (your == 0) || not known then Some YourUnknown else None)
reflects true some = rw (unequal some) refl
reflects false some = rw (unequal some) refl

pub to_reflector : (rows : List Row) (found : Option Row) {index : ℕ}
    → Some index ≡ option_map (λ (row : Row). reflector_index rows row.discr) found →
    Some (Reflector index) ≡ option_map (λ (row : Row). Reflector (reflector_index rows row.discr)) found
to_reflector rows None is = cc
to_reflector rows (Some row) is = cc

-- a tail that is known, or isn't
pub no_tail : {your : ℕ} (any : Bool) → your ≢ 0 → Some MultipointYour
    ≡ (if your == 0 then if any then None else Some NoTail else Some MultipointYour)
no_tail any some = rw (unequal some) refl

pub tail_heard : {your : ℕ} (any : Bool) → your ≡ 0
    → (if any then None else Some NoTail) ≡ (if your == 0 then if any then None else Some NoTail else Some MultipointYour)
tail_heard any zero = rw zero refl

-- a packet for a reflector
pub reflector_failing : (rows : List Row) (arrival : Arrival) {packet : Control} → packet ≡ fields_of arrival.payload →
    (if (packet.your == 0) || not (knows rows SbfdPort packet.your) then Some YourUnknown else None)
    ≡ first_past_header SbfdPort rows arrival
reflector_failing rows arrival is = rw is refl

pub reflector_named : (rows : List Row) (arrival : Arrival) {packet : Control} → packet ≡ fields_of arrival.payload → packet.your ≢ 0 →
    option_map (λ (row : Row). Reflector (reflector_index rows row.discr)) (the_one (row_has_discr SbfdPort packet.your) rows)
    ≡ target_named SbfdPort rows arrival
reflector_named rows arrival {packet} is some =
    let zero : ((fields_of arrival.payload).your == 0) ≡ false = cc (unequal some) in
    cc (the_one_agree (row_has_discr SbfdPort packet.your) (names_on SbfdPort arrival) (λ row. rw (is, zero) refl) rows)

tail_cases : (zero known : Bool) →
    (if zero then if known then None else Some NoTail else Some MultipointYour)
    ≡ cond (true && not zero) (Some MultipointYour) (cond (true && not known) (Some NoTail) None)
tail_cases true true = refl
tail_cases true false = refl
tail_cases false true = refl
tail_cases false false = refl

-- a multipoint packet
pub tail_failing : (port : Port) (rows : List Row) (arrival : Arrival) {packet : Control} {kind : RowKind}
    → packet ≡ fields_of arrival.payload → is_multipoint port arrival ≡ true →
    kind ≡ Tail (fields_of arrival.payload).my arrival.iface arrival.dst arrival.src →
    (if packet.your == 0 then if list_any (row_has_selector (Some kind)) rows then None else Some NoTail else Some MultipointYour)
    ≡ first_past_header port rows arrival
tail_failing SinglePort rows arrival is multipoint tail =
    rw (tail, is, multipoint, multipoint) (tail_cases ((fields_of arrival.payload).your == 0)
    (list_any (row_has_selector (tail_selector arrival)) rows))
tail_failing port rows arrival is multipoint tail = cc

pub tail_named : (port : Port) (rows : List Row) (arrival : Arrival) {kind : RowKind} → is_multipoint port arrival ≡ true →
    kind ≡ Tail (fields_of arrival.payload).my arrival.iface arrival.dst arrival.src →
    option_map (λ (row : Row). Session (session_index rows row.discr)) (the_one (row_has_selector (Some kind)) rows)
    ≡ target_named port rows arrival
tail_named SinglePort rows arrival {kind} multipoint tail =
    cc (the_one_agree (row_has_selector (Some kind)) (names_on SinglePort arrival) (λ row. rw (multipoint, tail) refl) rows)
tail_named port rows arrival multipoint tail = cc

-- any other packet
pub session_failing : (port : Port) (rows : List Row) (arrival : Arrival) {packet : Control} → packet ≡ fields_of arrival.payload →
    port ≢ EchoPort → port ≢ SbfdPort → is_multipoint port arrival ≡ false →
    first_session_failing port packet (selector_on port arrival) rows ≡ first_past_header port rows arrival
session_failing EchoPort rows arrival is no_echo no_sbfd single = absurd (no_echo refl)
session_failing SbfdPort rows arrival is no_echo no_sbfd single = absurd (no_sbfd refl)
session_failing SinglePort rows arrival is no_echo no_sbfd single = rw (is, single) refl
session_failing port rows arrival is no_echo no_sbfd single = rw is refl

pub session_named : (port : Port) (rows : List Row) (arrival : Arrival) {packet : Control} → packet ≡ fields_of arrival.payload →
    port ≢ EchoPort → port ≢ SbfdPort → is_multipoint port arrival ≡ false →
    option_map (λ (row : Row). Session (session_index rows row.discr)) (the_one (names_session port packet (selector_on port arrival)) rows)
    ≡ target_named port rows arrival
session_named EchoPort rows arrival is no_echo no_sbfd single = absurd (no_echo refl)
session_named SbfdPort rows arrival is no_echo no_sbfd single = absurd (no_sbfd refl)
session_named SinglePort rows arrival {packet} is no_echo no_sbfd single =
    cc (the_one_agree (names_session SinglePort packet (selector_on SinglePort arrival)) (names_on SinglePort arrival)
    (λ row. rw (is, single) refl) rows)
session_named port rows arrival is no_echo no_sbfd single = rw is refl

-- where no row has addresses
selector_none : (rows : List Row) → list_any (row_has_selector None) rows ≡ false
selector_none [] = refl
selector_none (row ∷ rows) = selector_none rows

-- no Your Discriminator, a state before Init, and no addresses to look for
pub no_session : (port : Port) (packet : Control) {selector : Option RowKind} (rows : List Row) → packet.your ≡ 0
    → is_init_or_up packet.state ≡ false → selector ≡ None →
    Some NoSession ≡ first_session_failing port packet selector rows
no_session port packet rows zero down nowhere = rw (zero, down, nowhere, selector_none rows) refl

-- the addresses of an arrival are those of a kind that has addresses
pub selector_addressed : (port : Port) (arrival : Arrival) → IfSome (selector_on port arrival) (λ kind. has_addresses kind ≡ true)
selector_addressed SinglePort arrival = refl
selector_addressed MultiPort arrival = refl
selector_addressed port arrival = tt

-- fields that no test refused
pub record IsRead (failing : Option Test) (fields packet : Control) : Type 0 where
  pub passes : failing ≡ None
  pub its : packet ≡ fields

read_fields : (failing : Option Test) (fields : Control) {packet : Control} → unless failing fields ≡ Ok packet
    → IsRead failing fields packet
read_fields None fields is = record { passes = refl; its = cc }
read_fields (Some test) fields is = cc

refused_by : (failing : Option Test) (fields : Control) {test : Test} → unless failing fields ≡ Err test → failing ≡ Some test
refused_by None fields is = cc
refused_by (Some other) fields is = cc

-- a payload that is read passes the header's tests
pub header_passed : (port : Port) (payload : List ℕ) {packet : Control} → port ≢ EchoPort → read_of port payload ≡ Ok packet →
    IsRead (find (λ test. header_fails test payload) (tests_on_header port)) (fields_of payload) packet
header_passed EchoPort payload no_echo is = absurd (no_echo refl)
header_passed port payload no_echo is = read_fields _ (fields_of payload) is

header_failed : (port : Port) (payload : List ℕ) {test : Test} → port ≢ EchoPort → read_of port payload ≡ Err test →
    find (λ test. header_fails test payload) (tests_on_header port) ≡ Some test
header_failed EchoPort payload no_echo is = absurd (no_echo refl)
header_failed port payload no_echo is = refused_by _ (fields_of payload) is

-- a packet that isn't read fails that test
pub unread : {port : Port} (rows : List Row) (arrival : Arrival) {test : Test} → port ≢ EchoPort → read_of port arrival.payload ≡ Err test →
    Some test ≡ first_failing_on port rows arrival
unread {port} rows arrival no_echo is = header_first port rows arrival (header_failed port arrival.payload no_echo is)

-- a packet that is read fails the tests on the table alone
pub read_past : {port : Port} (rows : List Row) (arrival : Arrival) {packet : Control} → port ≢ EchoPort
    → read_of port arrival.payload ≡ Ok packet →
    first_past_header port rows arrival ≡ first_failing_on port rows arrival
read_past {port} rows arrival no_echo is = past_header port rows arrival (header_passed port arrival.payload no_echo is).passes

-- a multipoint packet is looked up by addresses
pub tail_by_addresses : (port : Port) (arrival : Arrival) → is_multipoint port arrival ≡ true → is_by_addresses port arrival ≡ false → ⊥
tail_by_addresses SinglePort arrival multipoint other = cc
tail_by_addresses port arrival multipoint other = cc

either_true : (b : Bool) → (b || true) ≡ false → ⊥
either_true true e = cc
either_true false e = cc

by_your : (b : Bool) (your : ℕ) → (b || (your == 0)) ≡ false → your ≢ 0
by_your b your other zero = either_true b (rw zero at other)

-- any other packet that isn't has a Your Discriminator
pub session_by_discr : (port : Port) (arrival : Arrival) {packet : Control} → packet ≡ fields_of arrival.payload → port ≢ EchoPort
    → port ≢ SbfdPort → is_by_addresses port arrival ≡ false → packet.your ≢ 0
session_by_discr EchoPort arrival is no_echo no_sbfd other = absurd (no_echo refl)
session_by_discr SbfdPort arrival is no_echo no_sbfd other = absurd (no_sbfd refl)
session_by_discr SinglePort arrival is no_echo no_sbfd other =
    rw is (by_your (is_multipoint SinglePort arrival) (fields_of arrival.payload).your other)
session_by_discr MultiPort arrival is no_echo no_sbfd other =
    rw is (by_your (is_multipoint MultiPort arrival) (fields_of arrival.payload).your other)
session_by_discr AnswerPort arrival is no_echo no_sbfd other =
    rw is (by_your (is_multipoint AnswerPort arrival) (fields_of arrival.payload).your other)

-- a packet with a Your Discriminator, which is known or isn't
pub your_known : (port : Port) (packet : Control) (selector : Option RowKind) (rows : List Row) → packet.your ≢ 0
    → knows rows port packet.your ≡ true →
    None ≡ first_session_failing port packet selector rows
your_known port packet selector rows some known = rw (unequal some, known) refl

pub your_unknown : (port : Port) (packet : Control) (selector : Option RowKind) (rows : List Row) → packet.your ≢ 0
    → knows rows port packet.your ≡ false →
    Some YourUnknown ≡ first_session_failing port packet selector rows
your_unknown port packet selector rows some unknown = rw (unequal some, unknown) refl

-- no Your Discriminator, in a state that says that the sender has heard this system
pub heard_without_your : (port : Port) (packet : Control) (selector : Option RowKind) (rows : List Row) → packet.your ≡ 0
    → is_init_or_up packet.state ≡ true →
    Some YourZeroState ≡ first_session_failing port packet selector rows
heard_without_your port packet selector rows zero heard = rw (zero, heard) refl

-- no Your Discriminator, and addresses that a row has or none has
pub addresses_known : (port : Port) (packet : Control) {selector : Option RowKind} {kind : RowKind} (rows : List Row) → packet.your ≡ 0
    → is_init_or_up packet.state ≡ false →
    selector ≡ Some kind → list_any (λ row. same_selector kind row.kind) rows ≡ true
    → None ≡ first_session_failing port packet selector rows
addresses_known port packet rows zero down is known = rw (zero, down, is, known) refl

pub addresses_unknown : (port : Port) (packet : Control) {selector : Option RowKind} {kind : RowKind} (rows : List Row) → packet.your ≡ 0
    → is_init_or_up packet.state ≡ false →
    selector ≡ Some kind → list_any (λ row. same_selector kind row.kind) rows ≡ false
    → Some NoSession ≡ first_session_failing port packet selector rows
addresses_unknown port packet rows zero down is unknown = rw (zero, down, is, unknown) refl

pub to_session : (rows : List Row) (found : Option Row) {index : ℕ}
    → Some index ≡ option_map (λ (row : Row). session_index rows row.discr) found →
    Some (Session index) ≡ option_map (λ (row : Row). Session (session_index rows row.discr)) found
to_session rows None is = cc
to_session rows (Some row) is = cc

by_your_named : (port : Port) (packet : Control) (selector : Option RowKind) (rows : List Row) {index : ℕ} → packet.your ≢ 0 →
    Some index ≡ option_map (λ (row : Row). session_index rows row.discr) (the_one (row_has_discr port packet.your) rows) →
    Some (Session index) ≡ option_map (λ (row : Row). Session (session_index rows row.discr))
    (the_one (names_session port packet selector) rows)
by_your_named port packet selector rows some is =
    cc (
      to_session rows (the_one (row_has_discr port packet.your) rows) is,
      the_one_agree (names_session port packet selector) (row_has_discr port packet.your) (λ row. rw (unequal some) refl) rows,
    )

-- the session of a Your Discriminator
pub your_named : (port : Port) (packet : Control) (selector : Option RowKind) (rows : List Row) {index : ℕ} → port ≢ SbfdPort
    → packet.your ≢ 0 →
    Some index ≡ option_map (λ (row : Row). index_on port rows row.discr) (the_one (row_has_discr port packet.your) rows) →
    Some (Session index) ≡ option_map (λ (row : Row). Session (session_index rows row.discr))
    (the_one (names_session port packet selector) rows)
your_named SbfdPort packet selector rows no_sbfd some is = absurd (no_sbfd refl)
your_named SinglePort packet selector rows no_sbfd some is = by_your_named SinglePort packet selector rows some is
your_named MultiPort packet selector rows no_sbfd some is = by_your_named MultiPort packet selector rows some is
your_named EchoPort packet selector rows no_sbfd some is = by_your_named EchoPort packet selector rows some is
your_named AnswerPort packet selector rows no_sbfd some is = by_your_named AnswerPort packet selector rows some is

-- the session of addresses
pub addresses_named : (port : Port) (packet : Control) {selector : Option RowKind} {kind : RowKind} (rows : List Row) {index : ℕ}
    → packet.your ≡ 0 → selector ≡ Some kind →
    Some index ≡ option_map (λ (row : Row). session_index rows row.discr) (the_one (λ row. same_selector kind row.kind) rows) →
    Some (Session index) ≡ option_map (λ (row : Row). Session (session_index rows row.discr))
    (the_one (names_session port packet selector) rows)
addresses_named port packet {selector} {kind} rows zero is found =
    cc (
      to_session rows (the_one (λ row. same_selector kind row.kind) rows) found,
      the_one_agree (names_session port packet selector) (λ row. same_selector kind row.kind) (λ row. rw (zero, is) refl) rows,
    )

-- addresses to look for are those of a kind that has addresses
pub addressed_kind : {selector : Option RowKind} {kind : RowKind} → selector ≡ Some kind
    → IfSome selector (λ kind. has_addresses kind ≡ true) → has_addresses kind ≡ true
addressed_kind is addressed = rw is at addressed
