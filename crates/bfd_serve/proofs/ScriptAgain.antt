-- A whole script, written and read again.
use Rattle.bfd_serve.proofs.SpellingCommon.{◌≡◌, ℕ, ◌+◌, ◌<◌, ◌≤◌, ◌==◌, ◌^◌, Bool, true, false, ◌||◌, List, [], ◌∷◌, ◌++◌, length, Option}
use Rattle.bfd_serve.proofs.SpellingCommon.{Some, None, Ok, Err, cond, refl, ap, ◌∙◌, arith, suc, nat_lt, nat_le, append_assoc, append-nil}
use Rattle.bfd_serve.proofs.SpellingCommon.{length-append, nat_tests, codes, find, is_some, not, list_any, AllByRecursion, or_from}
use Rattle.bfd_serve.proofs.SpellingCommon.{SessionConfig, NoSuchSession, OutOfRange, SameAddresses, SameDiscr, SameKey, TooMany, Version}
use Rattle.bfd_serve.proofs.SpellingCommon.{lines_of, AreKeys, AreNext, IsEvent, IsKey, IsNext, IsReflector, IsRow, line, spaced}
use Rattle.bfd_serve.proofs.SpellingCommon.{auth_fields, config_text, event_fields, events_text, has_second, is_new_line, is_new_row}
use Rattle.bfd_serve.proofs.SpellingCommon.{key_fields, keys_text, list_text, more_text, pool_text, reflector_fields, row_fields, rows_text}
use Rattle.bfd_serve.proofs.SpellingCommon.{spelling, version_field, version_of, each_more, each_to}
use Rattle.bfd_script.proofs.Numbered.{none_any}
use Rattle.bfd_packet.specs.KeyChain.{KeyChain, fits_kind, has_id}
use Rattle.bfd_packet.specs.declared.keys.AuthType.{AuthType}
use Rattle.bfd_packet.specs.declared.keys.Key.{Key}
use Rattle.bfd_rules.specs.declared.config.Config.{Config}
use Rattle.bfd_session.specs.declared.event.SessionConfig.TheVariants.{PointToPoint}
use Rattle.bfd_sbfd.specs.Reflect as pools
use Rattle.bfd_sbfd.specs.declared.reflecting.Reflector.{Reflector}
use Rattle.bfd_session.specs.Kinds.{discr_of}
use Rattle.bfd_script.specs.declared.fields.fault.LineFault.{LineFault}
use Rattle.bfd_script.specs.declared.line.entries.Line.{Line}
use Rattle.bfd_script.specs.declared.line.words.Place.TheVariants as places
use Rattle.bfd_script.specs.declared.line.words.Version.TheVariants.{One, Two}
use Rattle.bfd_script.specs.Reading.{Lists, State, is_named, script_of, start, line_read, script_from, unless, with_config, with_event}
use Rattle.bfd_script.specs.Reading.{with_key, with_keys, with_reflector}
use Rattle.bfd_script.proofs.Rising.{inserted_last}
use Rattle.bfd_script.specs.Rows.{changed, given, has_discr, has_reflector, inserted, is_point, pooled, keyed_more, keyed_with, keys_in}
use Rattle.bfd_script.specs.Secrets.{key_fault, one_key}
use Rattle.bfd_session.specs.Rows.{same_selector}
use Rattle.bfd_session.specs.Step.{IsFit}
use Rattle.bfd_script.specs.Sound.{AreApart, AreNamed, IsScript}
use Rattle.bfd_serve.proofs.LinesAgain.{Speaks, auth_again, auth_fields_fit, event_again, event_fields_fit, key_again, key_fields_fit}
use Rattle.bfd_serve.proofs.RowsAgain.{bare, reflector_again, reflector_fields_fit, row_again, row_fields_fit}
use Rattle.bfd_serve.proofs.Following.{Follows, Ready, ready}
use Rattle.bfd_script.proofs.Splitting.{lines_again}

-- ---- one line

-- a line that is read and taken
line_taken : (s : State) {next : State} (number : ℕ) (fields : List (List ℕ)) (rest : List ℕ)
    → lines_of (line fields ++ rest) ≡ spaced fields [] ∷ lines_of rest → line_read false s (spaced fields []) ≡ Ok next
    → script_from false s number (lines_of (line fields ++ rest)) ≡ script_from false next (number + 1) (lines_of rest)
line_taken s number fields rest split taken = cc

-- the table is read: these sessions and reflectors stood
abbrev at_pool : Version → List SessionConfig → List Reflector → State
at_pool version configs pool = record { version = version; place = places.Table; configs = configs; pool = pool; events = [] }

-- the same before the first reflector
abbrev at_table : Version → List SessionConfig → State
at_table version configs = at_pool version configs []

-- the events are read
abbrev at_events : Version → List SessionConfig → List Reflector → List Line → State
at_events version configs pool events = record { version = version; place = places.Events; configs = configs; pool = pool; events = events }

-- ---- the table

none_above : (k : ℕ) (done : List SessionConfig) → AllByRecursion (λ d. discr_of d < k) done → has_discr k done ≡ false
none_above k [] h = refl
none_above k (d ∷ done) h =
    let low = h.0 in
    let other : (k == discr_of d) ≡ false = grind (arith, nat_tests) in
    rw (other, none_above k done h.1) refl

none_same : {X : Type 0} (test : X → Bool) (xs : List X) → AllByRecursion (λ x. test x ≡ false) xs → list_any test xs ≡ false
none_same test [] h = refl
none_same test (x ∷ xs) h = rw (h.0, none_same test xs h.1) refl

taken_last : {taken place full : Bool} (next : State) → taken ≡ false → place ≡ false → full ≡ false
    → cond taken (Err SameDiscr) (cond place (Err SameAddresses) (cond full (Err TooMany) (Ok next))) ≡ Ok next
taken_last next e f g = rw (e, f, g) refl

row_taken : (version : Version) {c : SessionConfig} {done : List SessionConfig} → Follows done c → length done < 65536
    → with_config c (at_table version done) ≡ Ok (at_table version (done ++ c ∷ []))
row_taken version {c} {done} follows room =
    let few : nat_le 65536 (length done + 0) ≡ false = grind (arith, nat_tests) in
    cc (
      taken_last (at_table version (inserted c done))
          (or_from (has_discr (discr_of c) done) false (none_above (discr_of c) done follows.above) refl)
          (none_same (same_selector c) done follows.apart) few,
      inserted_last c done follows.above,
    )

-- a session without its keys follows those before it as it does with them
follows_bare : (c : SessionConfig) {done : List SessionConfig} → Follows done c → Follows done (bare c)
follows_bare (PointToPoint c) h = record { above = h.above; apart = h.apart }
follows_bare c h = h

row_step : (version : Version) {c : SessionConfig} {done : List SessionConfig} → IsFit c → IsRow c → Follows done c → length done < 65536
    → line_read false (at_table version done) (spaced (row_fields c) []) ≡ Ok (at_table version (done ++ bare c ∷ []))
row_step version {c} fit row follows room = cc (row_again version false c fit row, row_taken version (follows_bare c follows) room)

-- the keys of the last session
find_last : (c : SessionConfig) (done : List SessionConfig) → AllByRecursion (λ d. discr_of d < discr_of c) done
    → find (λ d. discr_of c == discr_of d) (done ++ c ∷ []) ≡ Some c
find_last c [] h = let same : (discr_of c == discr_of c) ≡ true = grind (arith, nat_tests) in rw same refl
find_last c (d ∷ done) h =
    let low = h.0 in
    let other : (discr_of c == discr_of d) ≡ false = grind (arith, nat_tests) in
    rw (other, find_last c done h.1) refl

changed_last : (f : SessionConfig → SessionConfig) (c : SessionConfig) (done : List SessionConfig)
    → AllByRecursion (λ d. discr_of d < discr_of c) done
    → changed (discr_of c) f (done ++ c ∷ []) ≡ done ++ f c ∷ []
changed_last f c [] h = let same : (discr_of c == discr_of c) ≡ true = grind (arith, nat_tests) in rw same refl
changed_last f c (d ∷ done) h =
    let low = h.0 in
    let other : (discr_of c == discr_of d) ≡ false = grind (arith, nat_tests) in
    rw (other, changed_last f c done h.1) refl

taken_step : {keyed there : Bool} (next : State) → keyed ≡ false → there ≡ true
    → cond keyed (Err SameDiscr) (cond (not there) (Err NoSuchSession) (Ok next)) ≡ Ok next
taken_step next e f = rw (e, f) refl

keys_taken : (version : Version) (c : Config) (keys : KeyChain) (done : List SessionConfig) → c.keys ≡ None
    → AllByRecursion (λ d. discr_of d < c.discr) done
    → with_keys c.discr keys (at_table version (done ++ PointToPoint c ∷ []))
    ≡ Ok (at_table version (done ++ PointToPoint (record c { keys = Some keys }) ∷ []))
keys_taken version c keys done bare h = cc (
  taken_step (at_table version (given c.discr keys (done ++ PointToPoint c ∷ [])))
      (ap (λ o. is_some (keys_in o)) (find_last (PointToPoint c) done h) ∙ ap (λ o. is_some o) bare)
      (ap (λ o. is_point o) (find_last (PointToPoint c) done h)),
  changed_last (keyed_with keys) (PointToPoint c) done h,
)

auth_step : (version : Version) (c : Config) (kind : AuthType) (key : Key) (done : List SessionConfig) → c.keys ≡ None → 0 < c.discr
    → c.discr < 2 ^ 32
    → IsKey key → fits_kind kind key.secret ≡ true → AllByRecursion (λ d. discr_of d < c.discr) done
    → line_read false (at_table version (done ++ PointToPoint c ∷ [])) (spaced (auth_fields c.discr kind key) [])
    ≡ Ok (at_table version (done ++ PointToPoint (record c { keys = Some (one_key kind key.id key.secret) }) ∷ []))
auth_step version c kind key done bare some below fit fits h =
    cc (auth_again version false _ kind key some below fit fits, keys_taken version c (one_key kind key.id key.secret) done bare h)

-- a session with these keys
abbrev with_list : Config → AuthType → List Key → SessionConfig
with_list c kind list = PointToPoint (record c { keys = Some (record { kind = kind; list = list }) })

free_step : {fault : Option LineFault} (next : State) → fault ≡ None → unless fault next ≡ Ok next
free_step next e = rw e refl

key_taken : (c : Config) (kind : AuthType) (before : List Key) (key : Key) (done : List SessionConfig)
    → key_fault (Some (record { kind = kind; list = before })) key ≡ None
    → AllByRecursion (λ d. discr_of d < c.discr) done → with_key c.discr key (at_table Two (done ++ with_list c kind before ∷ []))
    ≡ Ok (at_table Two (done ++ with_list c kind (before ++ key ∷ []) ∷ []))
key_taken c kind before key done free h = cc (
  free_step (at_table Two (changed c.discr (keyed_more key) (done ++ with_list c kind before ∷ [])))
      (ap (λ o. key_fault (keys_in o) key) (find_last (with_list c kind before) done h) ∙ free),
  changed_last (keyed_more key) (with_list c kind before) done h,
)

-- a key that may come behind others has room
room_step : (fits taken full : Bool) → cond (not fits) (Some OutOfRange) (cond taken (Some SameKey) (cond full (Some TooMany) None)) ≡ None
    → fits ≡ true
room_step true taken full e = refl
room_step false taken full e = cc

has_room : (kind : AuthType) (before : List Key) (key : Key) → key_fault (Some (record { kind = kind; list = before })) key ≡ None
    → fits_kind kind key.secret ≡ true
has_room kind before key e = room_step (fits_kind kind key.secret) (has_id key.id before) (nat_le 4 (length before)) e

key_step : (c : Config) {kind : AuthType} {before : List Key} {key : Key} (done : List SessionConfig) → 0 < c.discr → c.discr < 2 ^ 32
    → IsNext kind before key → AllByRecursion (λ d. discr_of d < c.discr) done
    → line_read false (at_table Two (done ++ with_list c kind before ∷ [])) (spaced (key_fields c.discr key) [])
    ≡ Ok (at_table Two (done ++ with_list c kind (before ++ key ∷ []) ∷ []))
key_step c {kind} {before} {key} done some below next h =
    cc (key_again false _ kind key some below next.fits (has_room kind before key next.free), key_taken c kind before key done next.free h)

more_again : (c : Config) (kind : AuthType) (before keys : List Key) (done : List SessionConfig) (number : ℕ) (rest : List ℕ) → 0 < c.discr
    → c.discr < 2 ^ 32
    → AreNext kind before keys → AllByRecursion (λ d. discr_of d < c.discr) done
    → script_from false (at_table Two (done ++ with_list c kind before ∷ [])) number (lines_of (more_text c.discr keys ++ rest))
    ≡ script_from false (at_table Two (done ++ with_list c kind (before ++ keys) ∷ [])) (number + length keys) (lines_of rest)
more_again c kind before [] done number rest some below next h =
    let e : number + 0 ≡ number = omega arith in rw (append-nil before, e) refl
more_again c kind before (key ∷ keys) done number rest some below next h =
    let e : number + 1 + length keys ≡ number + suc (length keys) = omega arith in
    cc (
      append_assoc (line (key_fields c.discr key)) (more_text c.discr keys) rest,
      line_taken (at_table Two (done ++ with_list c kind before ∷ [])) number (key_fields c.discr key) (more_text c.discr keys ++ rest)
          (lines_again (key_fields c.discr key) (more_text c.discr keys ++ rest) (key_fields_fit below next.0.fits))
          (key_step c done some below next.0 h),
      more_again c kind (before ++ key ∷ []) keys done (number + 1) rest some below next.1 h,
      append_assoc before (key ∷ []) keys,
    )

-- the number of the line after a session's keys
abbrev past_keys : ℕ → Option KeyChain → ℕ
past_keys number None = number
past_keys number (Some keys) = number + length keys.list

-- the number of the line after these sessions
abbrev past : ℕ → List SessionConfig → ℕ
past number [] = number
past number (c ∷ cs) = past (past_keys (number + 1) (keys_in (Some c))) cs

no_others : (n : ℕ) → nat_lt 1 (suc (suc n)) ≡ false → ⊥
no_others n e = let more : nat_lt 1 (suc (suc n)) ≡ true = grind (arith, nat_tests) in cc

-- the first key, and then the others, which version 1 has no lines for
others_again : (version : Version) (c : Config) (kind : AuthType) (key : Key) (keys : List Key) (done : List SessionConfig) (number : ℕ)
    (rest : List ℕ) → 0 < c.discr → c.discr < 2 ^ 32
    → Speaks version (nat_lt 1 (suc (length keys))) → AreNext kind (key ∷ []) keys → AllByRecursion (λ d. discr_of d < c.discr) done
    → script_from false (at_table version (done ++ with_list c kind (key ∷ []) ∷ [])) number (lines_of (more_text c.discr keys ++ rest))
    ≡ script_from false (at_table version (done ++ with_list c kind (key ∷ keys) ∷ [])) (number + length keys) (lines_of rest)
others_again One c kind key [] done number rest some below speaks next h =
    let e : number + 0 ≡ number = omega arith in rw e refl
others_again One c kind key (other ∷ keys) done number rest some below speaks next h = absurd (no_others (length keys) speaks)
others_again Two c kind key keys done number rest some below speaks next h =
    more_again c kind (key ∷ []) keys done number rest some below next h

list_again : (version : Version) (c : Config) (kind : AuthType) (list : List Key) (done : List SessionConfig) (number : ℕ) (rest : List ℕ)
    → c.keys ≡ None → 0 < c.discr → c.discr < 2 ^ 32
    → Speaks version (nat_lt 1 (length list)) → 0 < length list → AreNext kind [] list → AllByRecursion (λ d. discr_of d < c.discr) done
    → script_from false (at_table version (done ++ PointToPoint c ∷ [])) number (lines_of (list_text c.discr kind list ++ rest))
    ≡ script_from false (at_table version (done ++ with_list c kind list ∷ [])) (number + length list) (lines_of rest)
list_again version c kind [] done number rest bare some below speaks there next h = absurd (omega arith)
list_again version c kind (key ∷ keys) done number rest bare some below speaks there next h =
    let e : number + 1 + length keys ≡ number + suc (length keys) = omega arith in
    cc (
      append_assoc (line (auth_fields c.discr kind key)) (more_text c.discr keys) rest,
      line_taken (at_table version (done ++ PointToPoint c ∷ [])) number (auth_fields c.discr kind key) (more_text c.discr keys ++ rest)
          (lines_again (auth_fields c.discr kind key) (more_text c.discr keys ++ rest) (auth_fields_fit kind below next.0.fits))
          (auth_step version c kind key done bare some below next.0.fits (has_room kind [] key next.0.free) h),
      others_again version c kind key keys done (number + 1) rest some below speaks next.1 h,
    )

keys_again : (version : Version) (c : Config) (keys : Option KeyChain) (done : List SessionConfig) (number : ℕ) (rest : List ℕ)
    → 0 < c.discr → c.discr < 2 ^ 32
    → Speaks version (has_second keys) → AreKeys keys → AllByRecursion (λ d. discr_of d < c.discr) done
    → script_from false (at_table version (done ++ PointToPoint (record c { keys = None }) ∷ [])) number
    (lines_of (keys_text c.discr keys ++ rest))
    ≡ script_from false (at_table version (done ++ PointToPoint (record c { keys = keys }) ∷ [])) (past_keys number keys) (lines_of rest)
keys_again version c None done number rest some below speaks fit h = refl
keys_again version c (Some keys) done number rest some below speaks fit h =
    list_again version (record c { keys = None }) keys.kind keys.list done number rest refl some below speaks fit.some fit.list h

bare_again : (version : Version) (c : SessionConfig) (done : List SessionConfig) (number : ℕ) (rest : List ℕ) → IsFit c → IsRow c
    → Speaks version (is_new_row c) → AllByRecursion (λ d. discr_of d < discr_of c) done
    → script_from false (at_table version (done ++ bare c ∷ [])) number (lines_of (keys_text (discr_of c) (keys_in (Some c)) ++ rest))
    ≡ script_from false (at_table version (done ++ c ∷ [])) (past_keys number (keys_in (Some c))) (lines_of rest)
bare_again version (PointToPoint c) done number rest fit row speaks h =
    keys_again version c c.keys done number rest fit.discr row.discr speaks row.keys h
bare_again version c done number rest fit row speaks h = refl

session_again : (version : Version) {c : SessionConfig} {done : List SessionConfig} (number : ℕ) (rest : List ℕ) → IsFit c → IsRow c
    → Follows done c
    → Speaks version (is_new_row c) → length done < 65536
    → script_from false (at_table version done) number (lines_of (config_text c ++ rest))
    ≡ script_from false (at_table version (done ++ c ∷ [])) (past_keys (number + 1) (keys_in (Some c))) (lines_of rest)
session_again version {c} {done} number rest fit row follows speaks room = cc (
  append_assoc (line (row_fields c)) (keys_text (discr_of c) (keys_in (Some c))) rest,
  line_taken (at_table version done) number (row_fields c) (keys_text (discr_of c) (keys_in (Some c)) ++ rest)
      (lines_again (row_fields c) (keys_text (discr_of c) (keys_in (Some c)) ++ rest) (row_fields_fit c fit row))
      (row_step version fit row follows room),
  bare_again version c done (number + 1) rest fit row speaks follows.above,
)

rows_again : (version : Version) (cs done : List SessionConfig) (number : ℕ) (rest : List ℕ) → AllByRecursion IsFit cs
    → AllByRecursion IsRow cs → AllByRecursion (λ c. Speaks version (is_new_row c)) cs → Ready done cs
    → length done + length cs ≤ 65536 → script_from false (at_table version done) number (lines_of (rows_text cs ++ rest))
    ≡ script_from false (at_table version (done ++ cs)) (past number cs) (lines_of rest)
rows_again version [] done number rest fit row speaks follows room = rw (append-nil done) refl
rows_again version (c ∷ cs) done number rest fit row speaks follows room =
    let more = length-append done (c ∷ []) in
    cc (
      append_assoc (config_text c) (rows_text cs) rest,
      session_again version number (rows_text cs ++ rest) fit.0 row.0 follows.0 speaks.0 (omega arith),
      rows_again version cs (done ++ c ∷ []) (past_keys (number + 1) (keys_in (Some c))) rest fit.1 row.1 speaks.1 follows.1 (omega arith),
      (append_assoc done (c ∷ []) cs),
    )

-- ---- the reflectors

no_reflector : (k : ℕ) (done : List Reflector) → AllByRecursion (λ d. d.discr < k) done → has_reflector k done ≡ false
no_reflector k [] h = refl
no_reflector k (d ∷ done) h =
    let low = h.0 in
    let other : (k == d.discr) ≡ false = grind (arith, nat_tests) in
    rw (other, no_reflector k done h.1) refl

-- a reflector above all others goes to the end
pooled_last : (r : Reflector) (done : List Reflector) → AllByRecursion (λ d. d.discr < r.discr) done → pooled r done ≡ done ++ r ∷ []
pooled_last r [] h = refl
pooled_last r (d ∷ done) h =
    let low = h.0 in
    let not_below : nat_lt r.discr d.discr ≡ false = grind (arith, nat_tests) in
    rw (not_below, pooled_last r done h.1) refl

-- all reflectors before are below these
abbrev AllBelow : List Reflector → List Reflector → Type 0
AllBelow done pool = AllByRecursion (λ d. AllByRecursion (λ r. d.discr < r.discr) pool) done

below_next : (d r : Reflector) (pool : List Reflector) → AllByRecursion (λ q. d.discr < q.discr) (r ∷ pool) → d.discr < r.discr
below_next d r pool h = h.0

below_rest : (d r : Reflector) (pool : List Reflector) → AllByRecursion (λ q. d.discr < q.discr) (r ∷ pool)
    → AllByRecursion (λ q. d.discr < q.discr) pool
below_rest d r pool h = h.1

free_next : {taken full : Bool} (next : State) → taken ≡ false → full ≡ false
    → cond taken (Err SameDiscr) (cond full (Err TooMany) (Ok next)) ≡ Ok next
free_next next e f = rw (e, f) refl

reflector_taken : (version : Version) (cs : List SessionConfig) (r : Reflector) (done : List Reflector) → has_discr r.discr cs ≡ false
    → AllByRecursion (λ d. d.discr < r.discr) done → length cs + length done < 65536
    → with_reflector r (at_pool version cs done) ≡ Ok (at_pool version cs (done ++ r ∷ []))
reflector_taken version cs r done apart h room =
    let few : nat_le 65536 (length cs + length done) ≡ false = grind (arith, nat_tests) in
    cc (
      free_next (at_pool version cs (pooled r done))
          (or_from (has_discr r.discr cs) (has_reflector r.discr done) apart (no_reflector r.discr done h)) few,
      pooled_last r done h,
    )

reflector_step : (version : Version) (cs : List SessionConfig) {r : Reflector} (done : List Reflector) → IsReflector r
    → has_discr r.discr cs ≡ false
    → AllByRecursion (λ d. d.discr < r.discr) done → length cs + length done < 65536
    → line_read false (at_pool version cs done) (spaced (reflector_fields r) []) ≡ Ok (at_pool version cs (done ++ r ∷ []))
reflector_step version cs {r} done row apart h room = cc (reflector_again version false row, reflector_taken version cs r done apart h room)

pool_again : (version : Version) (cs : List SessionConfig) (pool done : List Reflector) (number : ℕ) (rest : List ℕ)
    → AllByRecursion IsReflector pool → AreApart cs pool
    → pools.Ascends pool → AllBelow done pool → length cs + (length done + length pool) ≤ 65536
    → script_from false (at_pool version cs done) number (lines_of (pool_text pool ++ rest))
    ≡ script_from false (at_pool version cs (done ++ pool)) (number + length pool) (lines_of rest)
pool_again version cs [] done number rest row apart up below room =
    let e : number + 0 ≡ number = omega arith in rw (append-nil done, e) refl
pool_again version cs (r ∷ pool) done number rest row apart up below room =
    let more = length-append done (r ∷ []) in
    let e : number + 1 + length pool ≡ number + suc (length pool) = omega arith in
    cc (
      append_assoc (line (reflector_fields r)) (pool_text pool) rest,
      line_taken (at_pool version cs done) number (reflector_fields r) (pool_text pool ++ rest)
          (lines_again (reflector_fields r) (pool_text pool ++ rest) (reflector_fields_fit row.0))
          (reflector_step version cs done row.0 apart.0 (each_to done (λ d h. below_next d r pool h) below) (omega arith)),
      pool_again version cs pool (done ++ r ∷ []) (number + 1) rest row.1 apart.1 up.1
          (each_more (λ d. AllByRecursion (λ q. d.discr < q.discr) pool) done (r ∷ []) (each_to done (λ d h. below_rest d r pool h) below)
          (up.0, tt)) (omega arith),
      (append_assoc done (r ∷ []) pool),
    )

-- ---- the events

event_taken : (event : Line) (s : State) → is_named event s.configs ≡ true → length s.events < 200000
    → with_event event s ≡ Ok (record s { events = s.events ++ event ∷ [] })
event_taken event s named room =
    let few : nat_le 200000 (length s.events) ≡ false = grind (arith, nat_tests) in
    rw (named, few) refl

event_step : (version : Version) (event : Line) (configs : List SessionConfig) (pool : List Reflector) (done : List Line) → IsEvent event
    → is_named event configs ≡ true → length done < 200000 → Speaks version (is_new_line event)
    → line_read false (at_events version configs pool done) (spaced (event_fields event) [])
    ≡ Ok (at_events version configs pool (done ++ event ∷ []))
event_step version event configs pool done fit named room new =
    cc (event_again version event fit new, event_taken event (at_events version configs pool done) named room)

events_again : (version : Version) (events : List Line) (configs : List SessionConfig) (pool : List Reflector) (done : List Line)
    (number : ℕ) (rest : List ℕ) → AllByRecursion IsEvent events → AreNamed configs events
    → AllByRecursion (λ e. Speaks version (is_new_line e)) events → length done + length events ≤ 200000
    → script_from false (at_events version configs pool done) number (lines_of (events_text events ++ rest))
    ≡ script_from false (at_events version configs pool (done ++ events)) (number + length events) (lines_of rest)
events_again version [] configs pool done number rest fit named new room =
    let e : number + 0 ≡ number = omega arith in rw (append-nil done, e) refl
events_again version (event ∷ events) configs pool done number rest fit named new room =
    let more = length-append done (event ∷ []) in
    let e : number + 1 + length events ≡ number + suc (length events) = omega arith in
    cc (
      append_assoc (line (event_fields event)) (events_text events) rest,
      line_taken (at_events version configs pool done) number (event_fields event) (events_text events ++ rest)
          (lines_again (event_fields event) (events_text events ++ rest) (event_fields_fit event fit.0))
          (event_step version event configs pool done fit.0 named.0 (omega arith) new.0),
      events_again version events configs pool (done ++ event ∷ []) (number + 1) rest fit.1 named.1 new.1 (omega arith),
      (append_assoc done (event ∷ []) events),
    )

-- ---- the whole

version_read : (version : Version) (rest : List ℕ) → script_from false start 1
    (lines_of (line (codes "bfd" ∷ version_field version ∷ []) ++ rest))
    ≡ script_from false (at_table version []) 2 (lines_of rest)
version_read One rest = refl
version_read Two rest = refl

run_read : (version : Version) (configs : List SessionConfig) (pool : List Reflector) (number : ℕ) (rest : List ℕ)
    → script_from false (at_pool version configs pool) number (lines_of (line (codes "run" ∷ []) ++ rest))
    ≡ script_from false (at_events version configs pool []) (number + 1) (lines_of rest)
run_read version configs pool number rest = refl

end_read : (version : Version) (configs : List SessionConfig) (pool : List Reflector) (events : List Line) (number : ℕ)
    → script_from false (at_events version configs pool events) number (lines_of (line (codes "end" ∷ [])))
    ≡ Ok (record { configs = configs; pool = pool; events = events })
end_read version configs pool events number = refl

-- the version that a script is spelled in has lines for all of it
all_spoken : {X : Type 0} (test : X → Bool) (xs : List X) → AllByRecursion (λ x. Speaks Two (test x)) xs
all_spoken test [] = tt
all_spoken test (x ∷ xs) = (tt, all_spoken test xs)

rows_by : (rows lines : Bool) (cs : List SessionConfig) → list_any is_new_row cs ≡ rows
    → AllByRecursion (λ c. Speaks (cond (rows || lines) Two One) (is_new_row c)) cs
rows_by true lines cs e = all_spoken is_new_row cs
rows_by false true cs e = all_spoken is_new_row cs
rows_by false false cs e = none_any is_new_row cs e

events_by : (rows lines : Bool) (es : List Line) → list_any is_new_line es ≡ lines
    → AllByRecursion (λ e. Speaks (cond (rows || lines) Two One) (is_new_line e)) es
events_by true lines es e = all_spoken is_new_line es
events_by false true es e = all_spoken is_new_line es
events_by false false es e = none_any is_new_line es e

-- the text of events, and that of reflectors before it
abbrev after_pool : Lists → List ℕ
after_pool script = line (codes "run" ∷ []) ++ (events_text script.events ++ line (codes "end" ∷ []))

abbrev after_rows : Lists → List ℕ
after_rows script = pool_text script.pool ++ after_pool script

-- the spelling in this version
spelled_again : (version : Version) {script : Lists} → IsScript script → AllByRecursion (λ c. Speaks version (is_new_row c)) script.configs
    → AllByRecursion (λ e. Speaks version (is_new_line e)) script.events
    → script_of false (line (codes "bfd" ∷ version_field version ∷ []) ++ (rows_text script.configs ++ after_rows script)) ≡ Ok script
spelled_again version {script} h rows lines =
    let table : ℕ = past 2 script.configs in
    let number : ℕ = table + length script.pool in
    cc (
      version_read version (rows_text script.configs ++ after_rows script),
      rows_again version script.configs [] 2 (after_rows script)
          h.configs.fit h.configs.rows rows (ready [] script.configs tt h.configs.ascends h.configs.differs)
          (let k = h.configs.few in omega arith),
      pool_again version script.configs script.pool [] table (after_pool script) h.pool.rows h.apart h.pool.ascends tt
          (let k = h.few in omega arith),
      run_read version script.configs script.pool number (events_text script.events ++ line (codes "end" ∷ [])),
      events_again version script.events script.configs script.pool [] (number + 1) (line (codes "end" ∷ []))
          h.events.lines h.named lines (let k = h.events.few in omega arith),
      end_read version script.configs script.pool script.events (number + 1 + length script.events),
    )

-- the spelling of a script that the grammar gives spells that script
script_again : {script : Lists} → IsScript script → script_of false (spelling script) ≡ Ok script
script_again {script} h =
    spelled_again (version_of script) h (rows_by (list_any is_new_row script.configs) (list_any is_new_line script.events) script.configs
    refl)
    (events_by (list_any is_new_row script.configs) (list_any is_new_line script.events) script.events refl)

-- and so does any text that is the spelling
pub text_again : (script : Lists) (text : List ℕ) → text ≡ spelling script → IsScript script → script_of false text ≡ Ok script
text_again script text e h = cc (script_again h)
