-- A packet that fails no test up to selection over a session's one row: the session accepts it, and in Init or Up it names the session.
use Rattle.bfd_pair.proofs.Common.{◌≡◌, ◌==◌, ◌&&◌, ◌||◌, ◌++◌, not, ℕ, Bool, true, false, List, [], ◌∷◌, refl, None, Some, if◌then◌else◌}
use Rattle.bfd_pair.proofs.Common.{arith, find, Arrival, Test, fields_of, is_init_or_up, Config, SessionConfig, PointToPoint, Packet}
use Rattle.bfd_pair.proofs.Common.{discr_of}
use Rattle.bfd_pair.proofs.Common.{CanTake, arrival_to, screened, nat_tests, first_header_failing, first_table_failing, first_failing_on}
use Rattle.bfd_pair.proofs.Common.{is_multipoint, table_fails, tests_on_header, kind_of, row_of}
use Rattle.bfd_packet.specs.declared.arrival.Addr.{Addr}
use Rattle.bfd_packet.specs.declared.arrival.Port.TheVariants.{Single as SinglePort, Multi as MultiPort}
use Rattle.bfd_packet.specs.declared.discard.Test.TheVariants.{Short, Version, LengthMin, LengthOver, DetectMult, Multipoint, MyDiscr}
use Rattle.bfd_packet.specs.declared.discard.Test.TheVariants.{YourUnknown, YourZeroState, NoSession, MultipointYour, NoTail}
use Rattle.bfd_packet.specs.HeaderTests.{header_fails, first_failing}
use Rattle.bfd_rules.specs.declared.config.Role.{Role}
use Rattle.bfd_rules.specs.declared.config.Role.TheVariants.{Single, Multi}
use Rattle.bfd_p2p.specs.Port.{port_of}
use Rattle.bfd_demux.specs.declared.row.Row.{Row}
use Rattle.bfd_session.proofs.Ports.{each_passes}

never : true ≡ false → ⊥
never h = cc

abbrev row : Role → ℕ → ℕ → Addr → Addr → Row
row role discr iface local remote = record { discr = discr; kind = kind_of role iface local remote }

-- by the two tests on Your Discriminator
named : (your discr : ℕ) → ((your == 0) && true) ≡ false → (not (your == 0) && not ((discr == your) || false)) ≡ false → your ≡ discr
named your discr zero unknown = grind (arith, nat_tests)

-- port single: where M is set a session of two ends is no tail
single_plain : (discr iface : ℕ) (local remote : Addr) (arrival : Arrival) (m : Bool) → is_multipoint SinglePort arrival ≡ m
    → find (λ test. table_fails SinglePort test (row Single discr iface local remote ∷ []) arrival)
    (Short ∷ Version ∷ LengthMin ∷ LengthOver ∷ DetectMult ∷ MyDiscr ∷ []
    ++ (if m then MultipointYour ∷ NoTail ∷ [] else YourUnknown ∷ YourZeroState ∷ NoSession ∷ [])) ≡ None → m ≡ false
single_plain discr iface local remote arrival true is h =
    let none = each_passes (λ test. table_fails SinglePort test (row Single discr iface local remote ∷ []) arrival)
    (Short ∷ Version ∷ LengthMin ∷ LengthOver ∷ DetectMult ∷ MyDiscr ∷ MultipointYour ∷ []) NoTail [] h in
    absurd (never (cc))
single_plain discr iface local remote arrival false is h = refl

names_single : (discr iface : ℕ) (local remote : Addr) (arrival : Arrival) (m : Bool) → m ≡ false
    → is_init_or_up (fields_of arrival.payload).state ≡ true
    → find (λ test. table_fails SinglePort test (row Single discr iface local remote ∷ []) arrival)
    (Short ∷ Version ∷ LengthMin ∷ LengthOver ∷ DetectMult ∷ MyDiscr ∷ []
    ++ (if m then MultipointYour ∷ NoTail ∷ [] else YourUnknown ∷ YourZeroState ∷ NoSession ∷ [])) ≡ None
    → (fields_of arrival.payload).your ≡ discr
names_single discr iface local remote arrival true plain state h = absurd (never plain)
names_single discr iface local remote arrival false plain state h =
    let fails : Test → Bool = λ test. table_fails SinglePort test (row Single discr iface local remote ∷ []) arrival in
    let zero = each_passes fails (Short ∷ Version ∷ LengthMin ∷ LengthOver ∷ DetectMult ∷ MyDiscr ∷ YourUnknown ∷ []) YourZeroState
    (NoSession ∷ []) h in
    let unknown = each_passes fails (Short ∷ Version ∷ LengthMin ∷ LengthOver ∷ DetectMult ∷ MyDiscr ∷ []) YourUnknown
    (YourZeroState ∷ NoSession ∷ []) h in
    named (fields_of arrival.payload).your discr (cc) unknown

names_multi : (discr iface : ℕ) (local remote : Addr) (arrival : Arrival) → is_init_or_up (fields_of arrival.payload).state ≡ true
    → first_failing_on MultiPort (row Multi discr iface local remote ∷ []) arrival ≡ None → (fields_of arrival.payload).your ≡ discr
names_multi discr iface local remote arrival state h =
    let fails : Test → Bool = λ test. table_fails MultiPort test (row Multi discr iface local remote ∷ []) arrival in
    let zero = each_passes fails (Short ∷ Version ∷ LengthMin ∷ LengthOver ∷ DetectMult ∷ Multipoint ∷ MyDiscr ∷ YourUnknown ∷ [])
    YourZeroState (NoSession ∷ []) h in
    let unknown = each_passes fails (Short ∷ Version ∷ LengthMin ∷ LengthOver ∷ DetectMult ∷ Multipoint ∷ MyDiscr ∷ []) YourUnknown
    (YourZeroState ∷ NoSession ∷ []) h in
    named (fields_of arrival.payload).your discr (cc) unknown

names_by : (role : Role) (discr iface : ℕ) (local remote : Addr) (arrival : Arrival)
    → is_init_or_up (fields_of arrival.payload).state ≡ true
    → first_failing_on (port_of role) (row role discr iface local remote ∷ []) arrival ≡ None → (fields_of arrival.payload).your ≡ discr
names_by Single discr iface local remote arrival state h = names_single discr iface local remote arrival _
    (single_plain discr iface local remote arrival _ refl h) state h
names_by Multi discr iface local remote arrival state h = names_multi discr iface local remote arrival state h

-- an arrival that is on its way to a session
same_arrival : {a b : Arrival} → Some a ≡ Some b → a ≡ b
same_arrival e = cc

pub way_payload : (config : SessionConfig) (bytes : List ℕ) {arrival : Arrival} → arrival_to config bytes ≡ Some arrival
    → arrival.payload ≡ bytes
way_payload (PointToPoint c) bytes is = cc (same_arrival is)
way_payload config bytes is = cc

way_port : (c : Config) {bytes : List ℕ} {arrival : Arrival} → arrival_to (PointToPoint c) bytes ≡ Some arrival
    → arrival.port ≡ port_of c.role
way_port c is = cc (same_arrival is)

pub names : (config : SessionConfig) (bytes : List ℕ) {arrival : Arrival} → arrival_to config bytes ≡ Some arrival
    → is_init_or_up (fields_of bytes).state ≡ true → screened config arrival ≡ None → (fields_of bytes).your ≡ discr_of config
names (PointToPoint c) bytes {arrival} is state h =
    cc (names_by c.role c.discr c.iface c.local c.remote arrival (cc) (rw (← way_port c is) h))
names config bytes is state h = cc

-- the session accepts it

plain_by : (role : Role) (discr iface : ℕ) (local remote : Addr) (arrival : Arrival)
    → first_failing_on (port_of role) (row role discr iface local remote ∷ []) arrival ≡ None → (fields_of arrival.payload).multi ≡ false
plain_by Single discr iface local remote arrival h = single_plain discr iface local remote arrival _ refl h
plain_by Multi discr iface local remote arrival h =
    each_passes (λ test. table_fails MultiPort test (row Multi discr iface local remote ∷ []) arrival)
    (Short ∷ Version ∷ LengthMin ∷ LengthOver ∷ DetectMult ∷ []) Multipoint (MyDiscr ∷ YourUnknown ∷ YourZeroState ∷ NoSession ∷ []) h

header_by : (role : Role) (payload : List ℕ) → find (λ test. header_fails test payload) (tests_on_header (port_of role)) ≡ None
    → first_failing (port_of role) payload ≡ None
header_by Single payload h = h
header_by Multi payload h = h

pub takes : (config : SessionConfig) {arrival : Arrival} → arrival_to config arrival.payload ≡ Some arrival
    → first_header_failing arrival ≡ None → first_table_failing (row_of config ∷ []) arrival ≡ None → CanTake config (Packet arrival)
takes (PointToPoint c) {arrival} is header none =
    let port = way_port c is in
    record {
      port = port;
      header = rw port (header_by c.role arrival.payload (rw (← port) header));
      multi = plain_by c.role c.discr c.iface c.local c.remote arrival (rw (← port) none);
    }
takes config is header none = cc
