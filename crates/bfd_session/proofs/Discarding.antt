-- The one list of tests that may discard an arrival is the table's and then the session's, and a session's verdict names
-- the first of its own that fails.
use Rattle.bfd_session.proofs.Common.{◌≡◌, ◌||◌, ◌++◌, ◌∷◌, not, ℕ, Bool, true, false, List, [], refl, sym, ap, ◌∙◌, Option, None, Some}
use Rattle.bfd_session.proofs.Common.{Result, cond, if◌then◌else◌, take, find, and_parts, list_all, Arrival, Port, State, Test, Ttl}
use Rattle.bfd_session.proofs.Common.{AuthUnexpected, AuthMissing, AuthType, AuthKey, AuthLen, AuthSeq, AuthDigest, SeqState, unless}
use Rattle.bfd_session.proofs.Common.{fields_of, Config, Vars, is_admin_down, Row, is_multipoint, table_fails, tests_on_header}
use Rattle.bfd_session.proofs.Common.{tests_on_table, first_table_failing, SessionConfig, PointToPoint, Packet, Running, reply}
use Rattle.bfd_session.proofs.Common.{answer_to_packet}
use Rattle.bfd_session.proofs.Common.{Head, KeyChain, session_fails, session_tests, authenticated, judged_by, verdict_by, verdict_on}
use Rattle.std.proofs.lemmas.List.Folds.{find-append}
use Rattle.std.specs.Option.{option_or}
use Rattle.bfd_packet.specs.declared.arrival.Port.TheVariants.{Single, Multi, Answer as AnswerPort}
use Rattle.bfd_packet.specs.declared.discard.Test.TheVariants.{AdminDown}
use Rattle.bfd_auth.specs.Verdict.{verdict, section_fails, section_tests}
use Rattle.bfd_rules.specs.declared.verdict.Verdict.{Verdict}
use Rattle.bfd_rules.specs.declared.verdict.Verdict.TheVariants.{Accepted, Dropped}
use Rattle.bfd_session.specs.Step.{verdict_by as verdict_of}
use Rattle.bfd_session.specs.Discards.{unauthentic, point_fails, plain_fails, own_fails, own_tests, first_own_failing, discards}
use Rattle.bfd_session.specs.Discards.{first_discarding, test_of, judging, answer_by}

-- two sentences that agree on the tests of a list find the same
find_same : (p : Test → Bool) {q keep : Test → Bool} → ((test : Test) → keep test ≡ true → p test ≡ q test)
    → (tests : List Test) → list_all keep tests ≡ true → find p tests ≡ find q tests
find_same p agree [] all = refl
find_same p {keep} agree (test ∷ tests) all =
    let both = and_parts (keep test) (list_all keep tests) all in
    rw (agree test both.0, find_same p agree tests both.1) refl

-- the tests of the authentication section
abbrev is_section : Test → Bool
is_section AuthType = true
is_section AuthKey = true
is_section AuthLen = true
is_section AuthSeq = true
is_section AuthDigest = true
is_section _ = false

-- the tests on the session's configuration
abbrev is_first : Test → Bool
is_first Ttl = true
is_first AuthUnexpected = true
is_first AuthMissing = true
is_first _ = false

-- the tests that aren't a session's own
abbrev is_shared : Test → Bool
is_shared AdminDown = false
is_shared test = not (is_section test || is_first test)

-- no packet fails another test for its authentication section, nor for the session

unauthentic_not : (keys : Option KeyChain) (seq : SeqState) (raw : List ℕ) (test : Test) → is_section test ≡ false
    → unauthentic keys seq raw test ≡ false
unauthentic_not (Some keys) seq raw AuthType other = cc
unauthentic_not (Some keys) seq raw AuthKey other = cc
unauthentic_not (Some keys) seq raw AuthLen other = cc
unauthentic_not (Some keys) seq raw AuthSeq other = cc
unauthentic_not (Some keys) seq raw AuthDigest other = cc
unauthentic_not keys seq raw test other = refl

point_not : (c : Config) (v : Vars) (ttl : ℕ) (raw : List ℕ) (test : Test) → is_shared test ≡ true → point_fails c v ttl raw test ≡ false
point_not c v ttl raw Ttl shared = cc
point_not c v ttl raw AuthUnexpected shared = cc
point_not c v ttl raw AuthMissing shared = cc
point_not c v ttl raw AuthType shared = cc
point_not c v ttl raw AuthKey shared = cc
point_not c v ttl raw AuthLen shared = cc
point_not c v ttl raw AuthSeq shared = cc
point_not c v ttl raw AuthDigest shared = cc
point_not c v ttl raw AdminDown shared = cc
point_not c v ttl raw test shared = unauthentic_not c.keys v.seq (take (fields_of raw).length raw) test refl

plain_not : (v : Vars) (raw : List ℕ) (test : Test) → is_shared test ≡ true → plain_fails v raw test ≡ false
plain_not v raw AuthUnexpected shared = cc
plain_not v raw AdminDown shared = cc
plain_not v raw _ shared = refl

own_not : (c : SessionConfig) (v : Vars) (arrival : Arrival) (test : Test) → is_shared test ≡ true → own_fails c v arrival test ≡ false
own_not (PointToPoint c) v arrival test shared = point_not c v arrival.ttl arrival.payload test shared
own_not (Head c) v arrival test shared = refl
own_not c v arrival test shared = plain_not v arrival.payload test shared

-- the tests of the table are such

tests_shared : (port : Port) (multipoint : Bool) → list_all is_shared (tests_on_header port ++ tests_on_table port multipoint) ≡ true
tests_shared Single true = refl
tests_shared Single false = refl
tests_shared Multi true = refl
tests_shared AnswerPort true = refl
tests_shared port multipoint = refl

or_nothing : (a : Bool) {b : Bool} → b ≡ false → (a || b) ≡ a
or_nothing true h = refl
or_nothing false h = h

table_first : (rows : List Row) (c : SessionConfig) (v : Vars) (arrival : Arrival)
    → find (discards rows c v arrival) (tests_on_header arrival.port ++ tests_on_table arrival.port (is_multipoint arrival.port arrival))
    ≡ first_table_failing rows arrival
table_first rows c v arrival = find_same (discards rows c v arrival) {q = λ test. table_fails arrival.port test rows arrival}
    (λ test shared. or_nothing (table_fails arrival.port test rows arrival) (own_not c v arrival test shared))
    (tests_on_header arrival.port ++ tests_on_table arrival.port (is_multipoint arrival.port arrival))
    (tests_shared arrival.port (is_multipoint arrival.port arrival))

-- no arrival fails a session's own tests for the table
own_first : (rows : List Row) (c : SessionConfig) (v : Vars) (arrival : Arrival)
    → find (discards rows c v arrival) (own_tests c) ≡ first_own_failing c v arrival
own_first rows (PointToPoint c) v arrival = refl
own_first rows c v arrival = refl

pub discards_first : (rows : List Row) (c : SessionConfig) (v : Vars) (arrival : Arrival)
    → first_discarding rows c v arrival ≡ option_or (first_table_failing rows arrival) (first_own_failing c v arrival)
discards_first rows c v arrival =
    cc (
      find-append (discards rows c v arrival) (tests_on_header arrival.port
          ++ tests_on_table arrival.port (is_multipoint arrival.port arrival)) (own_tests c),
      table_first rows c v arrival,
      own_first rows c v arrival,
    )

-- the verdict of a point-to-point session

-- the test on AdminDown comes last
announced_by : (admin : Bool) → test_of (if admin then Dropped AdminDown else Accepted) ≡ cond admin (Some AdminDown) None
announced_by true = refl
announced_by false = refl

announced_unless : (state : State) (o : Option Test) (seq : SeqState)
    → test_of (verdict_by state (unless o seq)) ≡ option_or o (cond (is_admin_down state) (Some AdminDown) None)
announced_unless state None seq = announced_by (is_admin_down state)
announced_unless state (Some test) seq = refl

-- the tests of the authentication section, with the one on AdminDown after them
section_first : (keys : Option KeyChain) (state : State) (seq : SeqState) (raw : List ℕ)
    → test_of (verdict_by state (authenticated keys seq (fields_of raw) raw))
    ≡ option_or (find (unauthentic keys seq (take (fields_of raw).length raw)) section_tests)
    (cond (is_admin_down state) (Some AdminDown) None)
unfolding verdict
section_first None state seq raw = announced_by (is_admin_down state)
section_first (Some keys) state seq raw = announced_unless state
    (find (section_fails keys seq (take (fields_of raw).length raw)) section_tests)
    _

announced_judged : (state : State) (o : Option Test) (verified : Result SeqState Test)
    → test_of (verdict_by state (judged_by o verified)) ≡ option_or o (test_of (verdict_by state verified))
announced_judged state None verified = refl
announced_judged state (Some test) verified = refl

-- no packet fails one of the tests on the configuration for its authentication section
point_same : (c : Config) (v : Vars) (ttl : ℕ) (raw : List ℕ) (test : Test) → is_first test ≡ true
    → point_fails c v ttl raw test ≡ session_fails c ttl (fields_of raw) test
point_same c v ttl raw Ttl first = or_nothing _ (unauthentic_not c.keys v.seq (take (fields_of raw).length raw) Ttl refl)
point_same c v ttl raw AuthUnexpected first = or_nothing _
    (unauthentic_not c.keys v.seq (take (fields_of raw).length raw) AuthUnexpected refl)
point_same c v ttl raw AuthMissing first = or_nothing _ (unauthentic_not c.keys v.seq (take (fields_of raw).length raw) AuthMissing refl)
point_same c v ttl raw _ first = cc

point_first : (c : Config) (v : Vars) (arrival : Arrival)
    → first_own_failing (PointToPoint c) v arrival ≡ test_of (verdict_on c arrival.ttl arrival.payload v)
point_first c v arrival =
    let raw : List ℕ = arrival.payload in
    let fails = point_fails c v arrival.ttl raw in
    let first : Option Test = find (session_fails c arrival.ttl (fields_of raw)) session_tests in
    find-append fails session_tests (section_tests ++ AdminDown ∷ []) ∙ ap (λ o. option_or o (find fails (section_tests ++ AdminDown ∷ [])))
    (find_same _ (point_same c v arrival.ttl raw) session_tests refl)
    ∙ ap (λ o. option_or first o) (find-append fails section_tests (AdminDown ∷ []))
    ∙ sym (announced_judged v.state first (authenticated c.keys v.seq (fields_of raw) raw)
    ∙ ap (λ o. option_or first o) (section_first c.keys v.state v.seq raw))

-- the verdict of a session without authentication

plain_first : (auth admin : Bool) → cond auth (Some AuthUnexpected) (cond admin (Some AdminDown) None)
    ≡ test_of (if auth then Dropped AuthUnexpected else (if admin then Dropped AdminDown else Accepted))
plain_first true admin = refl
plain_first false true = refl
plain_first false false = refl

-- the verdict of a session of any kind; a head's tests are none

pub verdict_first : (c : SessionConfig) (v : Vars) (arrival : Arrival) → first_own_failing c v arrival ≡ test_of (verdict_of c arrival v)
verdict_first (PointToPoint c) v arrival = point_first c v arrival
verdict_first (Head c) v arrival = refl
verdict_first c v arrival = plain_first (fields_of arrival.payload).auth (is_admin_down v.state)

answered : (verdict : Verdict) → answer_to_packet verdict ≡ answer_by (test_of verdict)
answered Accepted = refl
answered (Dropped test) = refl

pub reply_first : (s : Running) (eff : ℕ) (arrival : Arrival)
    → reply eff (Packet arrival) s ≡ answer_by (first_own_failing s.config (judging eff s) arrival)
unfolding reply
reply_first s eff arrival = cc (answered (verdict_of s.config arrival (judging eff s)), verdict_first s.config (judging eff s) arrival)
