-- The names for C of codes, faults, tests, refusals, states, diagnostics and outputs, each by its kind and its number.
use Rattle.std.specs.Prelude.{ℕ, ◌==◌, ◌++◌, List, [], ◌∷◌, Option, None, Some, map, replicate, codes, slice_get, if◌then◌else◌}
use Rattle.bfd_packet.specs.declared.discard.Test.TheVariants as tests
use Rattle.bfd_packet.specs.declared.control.State.TheVariants as states
use Rattle.bfd_packet.specs.States.{state_name}
use Rattle.bfd_packet.specs.TestNames.{name_of}
use Rattle.bfd_rules.specs.declared.commands.Refusal.TheVariants as refusals
use Rattle.bfd_rules.specs.Names.{refusal_name}
use Rattle.bfd_script.specs.declared.fields.fault.LineFault.TheVariants as faults
use Rattle.bfd_script.specs.Complaints.{fault_name}

-- Each list has the names of one kind in the order of their numbers, from 0 on. A number without a name has the empty one.
abbrev pub code_names : List (List ℕ)
code_names = codes "Done" ∷ codes "Closed" ∷ codes "Memory" ∷ codes "Range" ∷ codes "End" ∷ codes "Text" ∷ codes "Events"
    ∷ codes "TakenDiscr" ∷ codes "TakenAddresses" ∷ codes "Full" ∷ codes "NotFound" ∷ codes "Size" ∷ []

abbrev pub fault_names : List (List ℕ)
fault_names =
    [] ∷ fault_name faults.NotAscii ∷ fault_name faults.TooLong ∷ fault_name faults.UnknownWord ∷ fault_name faults.FieldCount
    ∷ fault_name faults.BadNumber ∷ fault_name faults.OutOfRange ∷ fault_name faults.BadHex ∷ fault_name faults.BadAddress
    ∷ fault_name faults.SameDiscr ∷ fault_name faults.SameAddresses ∷ fault_name faults.NoSuchSession ∷ fault_name faults.Order
    ∷ fault_name faults.MissingEnd ∷ fault_name faults.TooMany ∷ [] ∷ fault_name faults.SameKey ∷ []

abbrev pub drop_names : List (List ℕ)
drop_names =
    [] ∷ name_of tests.Short ∷ name_of tests.Version ∷ name_of tests.LengthMin ∷ name_of tests.LengthOver
    ∷ name_of tests.DetectMult ∷ name_of tests.Multipoint ∷ name_of tests.MyDiscr ∷ name_of tests.YourUnknown
    ∷ name_of tests.YourZeroState ∷ name_of tests.NoSession ∷ name_of tests.Ttl ∷ name_of tests.AuthUnexpected
    ∷ name_of tests.AuthMissing ∷ name_of tests.AuthType ∷ name_of tests.AuthKey ∷ name_of tests.AuthLen
    ∷ name_of tests.AuthSeq ∷ name_of tests.AuthDigest ∷ name_of tests.AdminDown ∷ name_of tests.NotDemand
    ∷ name_of tests.MultipointYour ∷ name_of tests.NoTail ∷ name_of tests.EchoForm ∷ name_of tests.EchoStale ∷ []

abbrev pub refusal_names : List (List ℕ)
refusal_names =
    [] ∷ refusal_name refusals.PollBusy ∷ refusal_name refusals.WrongState ∷ refusal_name refusals.OutOfRange
    ∷ refusal_name refusals.WrongKind ∷ refusal_name refusals.UnknownSession ∷ []

abbrev pub state_names : List (List ℕ)
state_names =
    state_name states.AdminDown ∷ state_name states.Down ∷ state_name states.Init ∷ state_name states.Up ∷ []

-- the diagnostics of RFC 5880 section 4.1; those from 9 to 31 are reserved
abbrev pub diagnostic_names : List (List ℕ)
diagnostic_names =
    codes "No Diagnostic" ∷ codes "Control Detection Time Expired" ∷ codes "Echo Function Failed"
    ∷ codes "Neighbor Signaled Session Down" ∷ codes "Forwarding Plane Reset" ∷ codes "Path Down"
    ∷ codes "Concatenated Path Down" ∷ codes "Administratively Down" ∷ codes "Reverse Concatenated Path Down"
    ∷ replicate 23 (codes "Reserved")

-- the word of an output's line in a report
abbrev pub output_names : List (List ℕ)
output_names = [] ∷ codes "state" ∷ codes "tx" ∷ []

-- the names of a kind
abbrev pub names_by : ℕ → List (List ℕ)
names_by kind =
    if kind == 1 then code_names
    else if kind == 2 then fault_names
    else if kind == 3 then drop_names
    else if kind == 4 then refusal_names
    else if kind == 5 then state_names
    else if kind == 6 then diagnostic_names
    else if kind == 7 then output_names
    else []

-- a name as C's text, which a zero ends
abbrev pub zero_ended : List ℕ → List ℕ
zero_ended [] = []
zero_ended (letter ∷ letters) = letter ∷ (letters ++ (0 ∷ []))

-- the texts of names
abbrev pub texts_of : List (List ℕ) → List (List ℕ)
texts_of names = map zero_ended names

-- a text that has at least its zero
abbrev pub some_text : Option (List ℕ) → Option (List ℕ)
some_text None = None
some_text (Some []) = None
some_text (Some (byte ∷ bytes)) = Some (byte ∷ bytes)

-- the text for a kind and a number, if there is such a name
abbrev pub text_by : ℕ → ℕ → Option (List ℕ)
text_by kind number = some_text (slice_get (texts_of (names_by kind)) number)

-- what the text of a caller holds afterwards, and the code
abbrev pub text_read : Option (List ℕ) → List ℕ → List ℕ × ℕ
text_read None before = (before, 3)
text_read (Some text) before = (text, 0)
