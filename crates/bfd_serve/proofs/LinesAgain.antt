-- Table rows and events, written and read again.
use Rattle.bfd_serve.proofs.SpellingCommon.{◌≡◌, ℕ, nat_le, ◌<◌, ◌≤◌, ◌^◌, ◌-◌, Bool, true, false, cond, ◌&&◌, List, [], ◌∷◌, length, Some}
use Rattle.bfd_serve.proofs.SpellingCommon.{Ok, Err, refl, sym, ap, ◌∙◌, arith, nat_tests, codes, decimal, AllByRecursion, leb-true}
use Rattle.bfd_serve.proofs.SpellingCommon.{and_parts, OutOfRange, Version, cmd_entry, entry_in_line, numbered_of, plain_of, received_of}
use Rattle.bfd_serve.proofs.SpellingCommon.{shown_of, number_in, IsAsked, IsEvent, IsKey, IsReceived, hex_field, spaced, address_field}
use Rattle.bfd_serve.proofs.SpellingCommon.{auth_fields, event_fields, is_new_line, key_fields, port_field, verb_fields}
use Rattle.bfd_num.specs.Numbers.{moment_bound, greatest_tick}
use Rattle.hex.specs.Hex.{IsBytes}
use Rattle.bfd_packet.specs.KeyChain.{digest_size, fits_kind, type_number}
use Rattle.bfd_packet.specs.declared.arrival.Arrival.{Arrival}
use Rattle.bfd_packet.specs.declared.arrival.Port.{Port}
use Rattle.bfd_packet.specs.declared.arrival.Port.TheVariants as ports
use Rattle.bfd_packet.specs.declared.keys.AuthType.{AuthType}
use Rattle.bfd_packet.specs.declared.keys.AuthType.TheVariants as kinds
use Rattle.bfd_packet.specs.declared.keys.Key.{Key}
use Rattle.bfd_rules.specs.declared.commands.Cmd.{Cmd}
use Rattle.bfd_rules.specs.declared.commands.Cmd.TheVariants as commands
use Rattle.bfd_script.specs.declared.line.entries.Entry.TheVariants as entries
use Rattle.bfd_script.specs.declared.line.entries.Line.{Line}
use Rattle.bfd_script.specs.declared.line.entries.Line.TheVariants as events
use Rattle.bfd_script.specs.declared.line.verbs.Verb.{Verb}
use Rattle.bfd_script.specs.declared.line.verbs.Verb.TheVariants as verbs
use Rattle.bfd_script.specs.declared.line.words.Place.TheVariants as places
use Rattle.bfd_script.specs.declared.line.words.Version.TheVariants.{One, Two}
use Rattle.bfd_script.specs.Arrivals.{arrival_of, port_in}
use Rattle.bfd_script.specs.Secrets.{chain_of, key_of, auth_type_of, one_key, secret_of}
use Rattle.bfd_script.specs.Verbs.{command, fits, command_number, verb_of}
use Rattle.bfd_serve.proofs.Numerals.{number_again, number_field, number_short}
use Rattle.bfd_serve.proofs.Rereading.{address_again, address_is_field, address_short, bytes_again, hex_is_field, hex_short, payload_again}
use Rattle.bfd_script.proofs.Visible.{word}
use Rattle.bfd_script.specs.Windows.{IsField}
use Rattle.bfd_script.proofs.Splitting.{entry_again, total}

-- ---- versions

-- a version has lines for what is new in version 2, or for what isn't
abbrev pub Speaks : Version → Bool → Type 0
Speaks One new = new ≡ false
Speaks Two new = Unit {0}

-- ---- words

port_again : (port : Port) → port_in (port_field port) ≡ Ok port
port_again ports.Single = refl
port_again port = refl

port_is_field : (port : Port) → IsField (port_field port)
port_is_field ports.Single = word (codes "single") refl
port_is_field ports.Multi = word (codes "multi") refl
port_is_field ports.Echo = word (codes "echo") refl
port_is_field ports.Sbfd = word (codes "sbfd") refl
port_is_field ports.Answer = word (codes "answer") refl

port_short : (port : Port) → length (port_field port) ≤ 6
port_short ports.Single = omega arith
port_short port = omega arith

rx_is_field : IsField (codes "rx")
rx_is_field = word (codes "rx") refl

tick_is_field : IsField (codes "tick")
tick_is_field = word (codes "tick") refl

-- ---- the keys of a session

kind_again : (kind : AuthType) → auth_type_of (decimal (type_number kind)) ≡ Ok kind
kind_again kinds.Password = cc (number_again 1 5 1 (omega arith) (omega arith) (omega arith))
kind_again kinds.KeyedMd5 = cc (number_again 1 5 2 (omega arith) (omega arith) (omega arith))
kind_again kinds.MeticulousMd5 = cc (number_again 1 5 3 (omega arith) (omega arith) (omega arith))
kind_again kinds.KeyedSha1 = cc (number_again 1 5 4 (omega arith) (omega arith) (omega arith))
kind_again kinds.MeticulousSha1 = cc (number_again 1 5 5 (omega arith) (omega arith) (omega arith))

kind_small : (kind : AuthType) → type_number kind < 2 ^ 64
kind_small kinds.Password = omega arith
kind_small kind = omega arith

most_room : (kind : AuthType) → digest_size kind ≤ 20
most_room kinds.Password = omega arith
most_room kind = omega arith

secret_few : (kind : AuthType) (secret : List ℕ) → fits_kind kind secret ≡ true → length secret ≤ 20
secret_few kind secret h =
    let most = leb-true (length secret) (digest_size kind)
    (and_parts (nat_le 1 (length secret)) (nat_le (length secret) (digest_size kind)) h).1 in
    let room = most_room kind in omega arith

fit_step : (fits : Bool) (bytes : List ℕ) → fits ≡ true → cond fits (Ok bytes) (Err OutOfRange) ≡ Ok bytes
fit_step fits bytes h = rw h refl

secret_again : (kind : AuthType) (secret : List ℕ) → IsBytes secret → fits_kind kind secret ≡ true
    → secret_of kind (hex_field secret) ≡ Ok secret
secret_again kind secret h fits = cc (bytes_again secret h, fit_step (fits_kind kind secret) secret fits)

chain_again : (kind : AuthType) (key : Key) → IsKey key → fits_kind kind key.secret ≡ true
    → chain_of (decimal (type_number kind)) (decimal key.id) (hex_field key.secret) ≡ Ok (one_key kind key.id key.secret)
unfolding chain_of
chain_again kind key h fits = rw (
  kind_again kind,
  number_again 0 255 key.id (omega arith) (let k = h.id in omega arith) (let k = h.id in omega arith),
  secret_again kind key.secret h.bytes fits,
) refl

pub auth_fields_fit : {d : ℕ} (kind : AuthType) {key : Key} → d < 2 ^ 32 → IsKey key → AllByRecursion IsField (auth_fields d kind key)
auth_fields_fit {d} kind {key} below h = (
  word (codes "auth") refl,
  (
    number_field d (omega arith),
    (
      number_field _ (kind_small kind),
      (number_field key.id (let k = h.id in omega arith), (hex_is_field key.secret h.bytes, tt)),
    ),
  ),
)

auth_short : {d : ℕ} (kind : AuthType) {key : Key} → d < 2 ^ 32 → IsKey key → length key.secret ≤ 20 → total (auth_fields d kind key) ≤ 4096
auth_short {d} kind {key} below h few =
    let l1 = number_short d (omega arith) in
    let l2 = number_short _ (kind_small kind) in
    let l3 = number_short key.id (let k = h.id in omega arith) in
    let l4 = hex_short key.secret (omega arith) in
    omega arith

pub auth_again : (version : Version) (live : Bool) (d : ℕ) (kind : AuthType) (key : Key) → 0 < d → d < 2 ^ 32 → IsKey key
    → fits_kind kind key.secret ≡ true
    → entry_in_line version places.Table live (spaced (auth_fields d kind key) []) ≡ Ok (entries.Auth d (one_key kind key.id key.secret))
auth_again version live d kind key some below h fits = cc (
  entry_again version places.Table live (codes "auth") (decimal d ∷ decimal (type_number kind) ∷ decimal key.id ∷ hex_field key.secret ∷ [])
      (auth_fields_fit kind below h) (auth_short kind below h (secret_few kind key.secret fits)),
  number_again 1 4294967295 d some (omega arith) (omega arith),
  chain_again kind key h fits,
)

pub key_fields_fit : {d : ℕ} {key : Key} → d < 2 ^ 32 → IsKey key → AllByRecursion IsField (key_fields d key)
key_fields_fit {d} {key} below h = (
  word (codes "key") refl,
  (number_field d (omega arith), (number_field key.id (let k = h.id in omega arith), (hex_is_field key.secret h.bytes, tt))),
)

key_short : {d : ℕ} {key : Key} → d < 2 ^ 32 → IsKey key → length key.secret ≤ 20 → total (key_fields d key) ≤ 4096
key_short {d} {key} below h few =
    let l1 = number_short d (omega arith) in
    let l2 = number_short key.id (let k = h.id in omega arith) in
    let l3 = hex_short key.secret (omega arith) in
    omega arith

-- a secret that has room in a type has room in the one with the most
room_step : (some : Bool) {n : ℕ} → n ≤ 20 → (some && nat_le n 20) ≡ some
room_step true h = grind (arith, nat_tests)
room_step false h = refl

widest : (kind : AuthType) (secret : List ℕ) → fits_kind kind secret ≡ true → fits_kind kinds.KeyedSha1 secret ≡ true
widest kind secret fits = room_step (nat_le 1 (length secret)) (secret_few kind secret fits)
    ∙ (and_parts (nat_le 1 (length secret)) (nat_le (length secret) (digest_size kind)) fits).0

key_read : (kind : AuthType) (key : Key) → IsKey key → fits_kind kind key.secret ≡ true
    → key_of (decimal key.id) (hex_field key.secret) ≡ Ok key
unfolding key_of
key_read kind key h fits = rw (
  number_again 0 255 key.id (omega arith) (let k = h.id in omega arith) (let k = h.id in omega arith),
  secret_again kinds.KeyedSha1 key.secret h.bytes (widest kind key.secret fits),
) refl

pub key_again : (live : Bool) (d : ℕ) (kind : AuthType) (key : Key) → 0 < d → d < 2 ^ 32 → IsKey key → fits_kind kind key.secret ≡ true
    → entry_in_line Two places.Table live (spaced (key_fields d key) []) ≡ Ok (entries.Key d key)
key_again live d kind key some below h fits = cc (
  entry_again Two places.Table live (codes "key") (decimal d ∷ decimal key.id ∷ hex_field key.secret ∷ [])
      (key_fields_fit below h) (key_short below h (secret_few kind key.secret fits)),
  number_again 1 4294967295 d some (omega arith) (omega arith),
  key_read kind key h fits,
)

-- ---- an event

arrival_again : {m : ℕ} {a : Arrival} → IsReceived m a
    → arrival_of a.port a.iface (address_field a.src) (address_field a.dst) (decimal a.ttl) (hex_field a.payload) ≡ Ok a
unfolding arrival_of
arrival_again {a} h = rw (
  address_again a.src h.src,
  address_again a.dst h.dst,
  number_again 0 255 a.ttl (omega arith) (let k = h.ttl in omega arith) (let k = h.ttl in omega arith),
  payload_again a.payload h.bytes h.short,
) (ap (λ s. Ok (record a { sport = s })) (sym h.sport))

received_again : {m : ℕ} {a : Arrival} → IsReceived m a
    → received_of (decimal m) (port_field a.port) (decimal a.iface)
    (address_field a.src ∷ address_field a.dst ∷ decimal a.ttl ∷ hex_field a.payload ∷ [])
    ≡ Ok (entries.Event (events.Rx m a))
unfolding received_of
received_again {m} {a} h = rw (
  number_again 0 (moment_bound - 1) m (omega arith) (let k = h.moment_below in omega arith) (let k = h.moment_below in omega arith),
  port_again a.port,
  number_again 0 65535 a.iface (omega arith) (let k = h.iface in omega arith) (let k = h.iface in omega arith),
  arrival_again h,
) refl

rx_is_fields : {m : ℕ} {a : Arrival} → IsReceived m a → AllByRecursion IsField (event_fields (events.Rx m a))
rx_is_fields {m} {a} h = (
  rx_is_field,
  (
    number_field m (let k = h.moment_below in omega arith),
    (
      port_is_field a.port,
      (
        number_field a.iface (let k = h.iface in omega arith),
        (
          address_is_field a.src h.src,
          (
            address_is_field a.dst h.dst,
            (number_field a.ttl (let k = h.ttl in omega arith), (hex_is_field a.payload h.bytes, tt)),
          ),
        ),
      ),
    ),
  ),
)

rx_short : {m : ℕ} {a : Arrival} → IsReceived m a → total (event_fields (events.Rx m a)) ≤ 4096
rx_short {m} {a} h =
    let l1 = number_short m (let k = h.moment_below in omega arith) in
    let l2 = port_short a.port in
    let l3 = number_short a.iface (let k = h.iface in omega arith) in
    let l4 = address_short a.src h.src in
    let l5 = address_short a.dst h.dst in
    let l6 = number_short a.ttl (let k = h.ttl in omega arith) in
    let l7 = hex_short a.payload h.short in
    omega arith

tick_short : {tick : ℕ} → tick ≤ greatest_tick → total (event_fields (events.Tick tick)) ≤ 4096
tick_short {tick} h = let l = number_short tick (omega arith) in omega arith

-- ---- a command

-- the fields of a command after its discriminator
verb_fits : (cmd : Cmd) → command_number cmd < 2 ^ 64 → AllByRecursion IsField (verb_fields cmd)
verb_fits commands.Disable h = (word (codes "disable") refl, tt)
verb_fits commands.Enable h = (word (codes "enable") refl, tt)
verb_fits commands.Reset h = (word (codes "reset") refl, tt)
verb_fits (commands.Path n) h = (word (codes "path") refl, (number_field n h, tt))
verb_fits (commands.Tx n) h = (word (codes "tx") refl, (number_field n h, tt))
verb_fits (commands.Rx n) h = (word (codes "rx") refl, (number_field n h, tt))
verb_fits (commands.Mult n) h = (word (codes "mult") refl, (number_field n h, tt))
verb_fits (commands.Demand n) h = (word (codes "demand") refl, (number_field n h, tt))
verb_fits (commands.EchoEvery n) h = (word (codes "echo") refl, (number_field n h, tt))
verb_fits (commands.Key n) h = (word (codes "key") refl, (number_field n h, tt))

verb_short : (cmd : Cmd) → command_number cmd < 2 ^ 64 → total (verb_fields cmd) ≤ 40
verb_short (commands.Path n) h = let l = number_short n h in omega arith
verb_short (commands.Tx n) h = let l = number_short n h in omega arith
verb_short (commands.Rx n) h = let l = number_short n h in omega arith
verb_short (commands.Mult n) h = let l = number_short n h in omega arith
verb_short (commands.Demand n) h = let l = number_short n h in omega arith
verb_short (commands.EchoEvery n) h = let l = number_short n h in omega arith
verb_short (commands.Key n) h = let l = number_short n h in omega arith
verb_short cmd h = omega arith

moment_again : {m d : ℕ} → IsAsked m d → number_in 0 (moment_bound - 1) (decimal m) ≡ Ok m
moment_again {m} h =
    number_again 0 (moment_bound - 1) m (omega arith) (let k = h.moment_below in omega arith) (let k = h.moment_below in omega arith)

asked_again : {m d : ℕ} → IsAsked m d → number_in 1 4294967295 (decimal d) ≡ Ok d
asked_again {d} h =
    number_again 1 4294967295 d h.some_discr (let k = h.discr_below in omega arith) (let k = h.discr_below in omega arith)

plain_again : (version : Version) {m d : ℕ} (field : List ℕ) (verb : Verb) → IsAsked m d → verb_of version field ≡ Some verb
    → plain_of version (decimal m) (decimal d) field ≡ Ok (entries.Event (events.Cmd m d (command verb 0)))
unfolding plain_of
plain_again version field verb h e = rw (moment_again h, asked_again h, e) refl

numbered_again : (version : Version) {m d n : ℕ} (field : List ℕ) (verb : Verb) → IsAsked m d → n < 2 ^ 64
    → verb_of version field ≡ Some verb
    → numbered_of version (decimal m) (decimal d) field (decimal n) ≡ Ok (entries.Event (events.Cmd m d (command verb n)))
unfolding numbered_of
numbered_again version {n} field verb h below e = rw (
  moment_again h,
  asked_again h,
  e,
  number_again 0 (2 ^ 64 - 1) n (omega arith) (omega arith) below,
) refl

-- the key command is of version 2
key_verb : (version : Version) → Speaks version true → verb_of version (codes "key") ≡ Some verbs.Key
key_verb One h = cc
key_verb Two h = refl

command_again : (version : Version) {m d : ℕ} (cmd : Cmd) → IsAsked m d → command_number cmd < 2 ^ 64
    → Speaks version (is_new_line (events.Cmd m d cmd))
    → cmd_entry version (decimal m ∷ decimal d ∷ verb_fields cmd) ≡ Ok (entries.Event (events.Cmd m d cmd))
command_again version commands.Disable h n new = plain_again version (codes "disable") verbs.Disable h refl
command_again version commands.Enable h n new = plain_again version (codes "enable") verbs.Enable h refl
command_again version commands.Reset h n new = plain_again version (codes "reset") verbs.Reset h refl
command_again version (commands.Path n) h below new = numbered_again version (codes "path") verbs.Path h below refl
command_again version (commands.Tx n) h below new = numbered_again version (codes "tx") verbs.Tx h below refl
command_again version (commands.Rx n) h below new = numbered_again version (codes "rx") verbs.Rx h below refl
command_again version (commands.Mult n) h below new = numbered_again version (codes "mult") verbs.Mult h below refl
command_again version (commands.Demand n) h below new = numbered_again version (codes "demand") verbs.Demand h below refl
command_again version (commands.EchoEvery n) h below new = numbered_again version (codes "echo") verbs.Echo h below refl
command_again version (commands.Key n) h below new =
    cc (key_verb version new, numbered_again version (codes "key") _ h below (key_verb version new))

cmd_is_fields : {m d : ℕ} (cmd : Cmd) → IsAsked m d → command_number cmd < 2 ^ 64
    → AllByRecursion IsField (event_fields (events.Cmd m d cmd))
cmd_is_fields {m} {d} cmd h below = (
  word (codes "cmd") refl,
  (number_field m (let k = h.moment_below in omega arith), (number_field d (let k = h.discr_below in omega arith), verb_fits cmd below)),
)

cmd_short : {m d : ℕ} (cmd : Cmd) → IsAsked m d → command_number cmd < 2 ^ 64 → total (event_fields (events.Cmd m d cmd)) ≤ 4096
cmd_short {m} {d} cmd h below =
    let l1 = number_short m (let k = h.moment_below in omega arith) in
    let l2 = number_short d (let k = h.discr_below in omega arith) in
    let l3 = verb_short cmd below in
    omega arith

-- ---- a question

shown_again : {m d : ℕ} → IsAsked m d → shown_of (decimal m) (decimal d) ≡ Ok (entries.Event (events.Show m d))
unfolding shown_of
shown_again h = rw (moment_again h, asked_again h) refl

show_is_fields : {m d : ℕ} → IsAsked m d → AllByRecursion IsField (event_fields (events.Show m d))
show_is_fields {m} {d} h = (
  word (codes "show") refl,
  (number_field m (let k = h.moment_below in omega arith), (number_field d (let k = h.discr_below in omega arith), tt)),
)

show_short : {m d : ℕ} → IsAsked m d → total (event_fields (events.Show m d)) ≤ 4096
show_short {m} {d} h =
    let l1 = number_short m (let k = h.moment_below in omega arith) in
    let l2 = number_short d (let k = h.discr_below in omega arith) in
    omega arith

-- ---- any event

pub event_fields_fit : (event : Line) → IsEvent event → AllByRecursion IsField (event_fields event)
event_fields_fit (events.Rx m a) h = rx_is_fields h
event_fields_fit (events.Tick tick) h = (tick_is_field, (number_field tick (omega arith), tt))
event_fields_fit (events.Cmd m d cmd) h = cmd_is_fields cmd h.0 h.1
event_fields_fit (events.Show m d) h = show_is_fields h

pub event_again : (version : Version) (event : Line) → IsEvent event → Speaks version (is_new_line event)
    → entry_in_line version places.Events false (spaced (event_fields event) []) ≡ Ok (entries.Event event)
event_again version (events.Rx m a) h new =
    entry_again version places.Events false (codes "rx")
    (decimal m ∷ port_field a.port ∷ decimal a.iface ∷ address_field a.src ∷ address_field a.dst ∷ decimal a.ttl ∷ hex_field a.payload ∷ [])
    (rx_is_fields h) (rx_short h) ∙ received_again h
event_again version (events.Tick tick) h new =
    cc (
      entry_again version places.Events false (codes "tick") (decimal tick ∷ []) (event_fields_fit (events.Tick tick) h) (tick_short h),
      number_again 0 _ tick (omega arith) h (omega arith),
    )
event_again version (events.Cmd m d cmd) h new =
    entry_again version places.Events false (codes "cmd") (decimal m ∷ decimal d ∷ verb_fields cmd) (cmd_is_fields cmd h.0 h.1)
    (cmd_short cmd h.0 h.1)
    ∙ command_again version cmd h.0 h.1 new
event_again version (events.Show m d) h new =
    entry_again version places.Events false (codes "show") (decimal m ∷ decimal d ∷ []) (show_is_fields h) (show_short h) ∙ shown_again h
