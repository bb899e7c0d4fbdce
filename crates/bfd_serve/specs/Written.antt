-- The one spelling of a script.
use Rattle.std.specs.Prelude.{ℕ, ◌/◌, ◌%◌, Bool, true, false, ◌||◌, nat_lt, List, [], ◌∷◌, ◌++◌, length, Option, Some, None, codes}
use Rattle.std.specs.Prelude.{if◌then◌else◌}
use Rattle.std.specs.List.{flat_map, list_any}
use Rattle.std.specs.Fmt.{decimal}
use Rattle.byteorder.specs.Endian.{big_bytes}
use Rattle.hex.specs.Hex.{encode_lower}
use Rattle.bfd_packet.specs.KeyChain.{KeyChain, type_number}
use Rattle.bfd_packet.specs.declared.arrival.Addr.{Addr}
use Rattle.bfd_packet.specs.declared.arrival.Addr.TheVariants.{V4, V6}
use Rattle.bfd_packet.specs.declared.arrival.Port.{Port}
use Rattle.bfd_packet.specs.declared.arrival.Port.TheVariants as ports
use Rattle.bfd_packet.specs.declared.keys.AuthType.{AuthType}
use Rattle.bfd_packet.specs.declared.keys.Key.{Key}
use Rattle.bfd_sbfd.specs.declared.reflecting.Reflector.{Reflector}
use Rattle.bfd_rules.specs.declared.commands.Cmd.{Cmd}
use Rattle.bfd_rules.specs.declared.commands.Cmd.TheVariants as commands
use Rattle.bfd_rules.specs.declared.config.Role.{Role}
use Rattle.bfd_rules.specs.declared.config.Role.TheVariants as roles
use Rattle.bfd_session.specs.declared.event.SessionConfig.{SessionConfig}
use Rattle.bfd_session.specs.declared.event.SessionConfig.TheVariants.{PointToPoint, Initiator, Head, Tail}
use Rattle.bfd_session.specs.Kinds.{discr_of}
use Rattle.bfd_script.specs.declared.line.entries.Line.{Line}
use Rattle.bfd_script.specs.declared.line.entries.Line.TheVariants as events
use Rattle.bfd_script.specs.declared.line.words.Version.{Version}
use Rattle.bfd_script.specs.declared.line.words.Version.TheVariants.{One, Two}
use Rattle.bfd_script.specs.Reading.{Lists}
use Rattle.bfd_script.specs.Rows.{keys_in}
use Rattle.bfd_script.specs.Spelling.{line, hex_field}

-- four numbers with dots
abbrev pub dotted_field : ℕ → ℕ → ℕ → ℕ → List ℕ
dotted_field a b c d = decimal a ++ (46 ∷ (decimal b ++ (46 ∷ (decimal c ++ (46 ∷ decimal d)))))

-- an address: four numbers with dots, or 32 hexadecimal digits in lower case
abbrev pub address_field : Addr → List ℕ
address_field (V4 n) = dotted_field (n / 256 / 256 / 256) (n / 256 / 256 % 256) (n / 256 % 256) (n % 256)
address_field (V6 n) = encode_lower (big_bytes 16 n)

-- over how many hops
abbrev pub role_field : Role → List ℕ
role_field roles.Single = codes "single"
role_field roles.Multi = codes "multi"

-- whether the session sends before it has heard the peer
abbrev pub mode_field : Bool → List ℕ
mode_field true = codes "active"
mode_field false = codes "passive"

-- whether a reflector is Up or set to AdminDown
abbrev pub up_field : Bool → List ℕ
up_field true = codes "up"
up_field false = codes "admin"

-- the kind of port
abbrev pub port_field : Port → List ℕ
port_field ports.Single = codes "single"
port_field ports.Multi = codes "multi"
port_field ports.Echo = codes "echo"
port_field ports.Sbfd = codes "sbfd"
port_field ports.Answer = codes "answer"

-- a command: its word, and its number if it has one
abbrev pub verb_fields : Cmd → List (List ℕ)
verb_fields commands.Disable = codes "disable" ∷ []
verb_fields commands.Enable = codes "enable" ∷ []
verb_fields commands.Reset = codes "reset" ∷ []
verb_fields (commands.Path n) = codes "path" ∷ decimal n ∷ []
verb_fields (commands.Tx n) = codes "tx" ∷ decimal n ∷ []
verb_fields (commands.Rx n) = codes "rx" ∷ decimal n ∷ []
verb_fields (commands.Mult n) = codes "mult" ∷ decimal n ∷ []
verb_fields (commands.Demand n) = codes "demand" ∷ decimal n ∷ []
verb_fields (commands.EchoEvery n) = codes "echo" ∷ decimal n ∷ []
verb_fields (commands.Key n) = codes "key" ∷ decimal n ∷ []

-- the fields of a session's row
abbrev pub row_fields : SessionConfig → List (List ℕ)
row_fields (PointToPoint c) =
    codes "p2p" ∷ decimal c.discr ∷ role_field c.role ∷ decimal c.iface ∷ address_field c.local ∷ address_field c.remote
    ∷ mode_field c.active ∷ decimal c.tx ∷ decimal c.rx ∷ decimal c.mult ∷ decimal c.echo ∷ decimal c.seed ∷ []
row_fields (Initiator c) =
    codes "sbfd" ∷ decimal c.discr ∷ decimal c.target ∷ decimal c.iface ∷ address_field c.local ∷ address_field c.remote
    ∷ decimal c.tx ∷ decimal c.mult ∷ decimal c.seed ∷ []
row_fields (Head c) =
    codes "head" ∷ decimal c.discr ∷ decimal c.iface ∷ address_field c.local ∷ address_field c.group ∷ decimal c.tx
    ∷ decimal c.mult ∷ decimal c.seed ∷ []
row_fields (Tail c) =
    codes "tail" ∷ decimal c.discr ∷ decimal c.head ∷ decimal c.iface ∷ address_field c.group ∷ address_field c.source ∷ []

-- the fields of a reflector's row
abbrev pub reflector_fields : Reflector → List (List ℕ)
reflector_fields r = codes "reflector" ∷ decimal r.discr ∷ decimal r.rx ∷ up_field r.up ∷ []

-- the fields of an `auth` line
abbrev pub auth_fields : ℕ → AuthType → Key → List (List ℕ)
auth_fields discr kind key = codes "auth" ∷ decimal discr ∷ decimal (type_number kind) ∷ decimal key.id ∷ hex_field key.secret ∷ []

-- the fields of a `key` line
abbrev pub key_fields : ℕ → Key → List (List ℕ)
key_fields discr key = codes "key" ∷ decimal discr ∷ decimal key.id ∷ hex_field key.secret ∷ []

-- the `key` lines of these keys
abbrev pub more_text : ℕ → List Key → List ℕ
more_text discr keys = flat_map (λ key. line (key_fields discr key)) keys

-- the lines of these keys: an `auth` line for the first, and `key` lines for the others
abbrev pub list_text : ℕ → AuthType → List Key → List ℕ
list_text discr kind [] = []
list_text discr kind (key ∷ keys) = line (auth_fields discr kind key) ++ more_text discr keys

-- the lines of a session's keys, if it has some
abbrev pub keys_text : ℕ → Option KeyChain → List ℕ
keys_text discr None = []
keys_text discr (Some keys) = list_text discr keys.kind keys.list

-- the lines of a session: its table row, and then its keys
abbrev pub config_text : SessionConfig → List ℕ
config_text c = line (row_fields c) ++ keys_text (discr_of c) (keys_in (Some c))

-- the fields of an event
abbrev pub event_fields : Line → List (List ℕ)
event_fields (events.Rx moment a) =
    codes "rx" ∷ decimal moment ∷ port_field a.port ∷ decimal a.iface ∷ address_field a.src ∷ address_field a.dst
    ∷ decimal a.ttl ∷ hex_field a.payload ∷ []
event_fields (events.Tick tick) = codes "tick" ∷ decimal tick ∷ []
event_fields (events.Cmd moment discr cmd) = codes "cmd" ∷ decimal moment ∷ decimal discr ∷ verb_fields cmd
event_fields (events.Show moment discr) = codes "show" ∷ decimal moment ∷ decimal discr ∷ []

-- the lines of sessions
abbrev pub rows_text : List SessionConfig → List ℕ
rows_text configs = flat_map config_text configs

-- the lines of reflectors
abbrev pub pool_text : List Reflector → List ℕ
pool_text pool = flat_map (λ r. line (reflector_fields r)) pool

-- the lines of events
abbrev pub events_text : List Line → List ℕ
events_text events = flat_map (λ event. line (event_fields event)) events

-- a session with a second key
abbrev pub has_second : Option KeyChain → Bool
has_second None = false
has_second (Some keys) = nat_lt 1 (length keys.list)

-- a session that version 1 has no lines for
abbrev pub is_new_row : SessionConfig → Bool
is_new_row c = has_second (keys_in (Some c))

-- an event that version 1 has no line for
abbrev pub is_new_line : Line → Bool
is_new_line (events.Cmd moment discr (commands.Key n)) = true
is_new_line event = false

-- the version that a script is spelled in: the first that has lines for all of it
abbrev pub version_of : Lists → Version
version_of script = if list_any is_new_row script.configs || list_any is_new_line script.events then Two else One

-- the number of a version
abbrev pub version_field : Version → List ℕ
version_field One = codes "1"
version_field Two = codes "2"

-- the text of a script: the version, the sessions, the reflectors, `run`, the events and `end`
abbrev pub spelling : Lists → List ℕ
spelling script =
    line (codes "bfd" ∷ version_field (version_of script) ∷ []) ++ (rows_text script.configs ++ (pool_text script.pool
    ++ (line (codes "run" ∷ []) ++ (events_text script.events ++ line (codes "end" ∷ [])))))
