-- What is true of what a line says: each number is within its field.
use Rattle.std.specs.Prelude.{◌≡◌, ◌<◌, ◌≤◌, ◌^◌, ℕ, Option, Some, None, List, [], ◌∷◌, ◌++◌, length}
use Rattle.bfd_session.specs.Step.{IsFit}
use Rattle.bfd_sbfd.specs.declared.config.InitiatorConfig.{InitiatorConfig}
use Rattle.bfd_sbfd.specs.declared.reflecting.Reflector.{Reflector}
use Rattle.bfd_mp.specs.declared.config.HeadConfig.{HeadConfig}
use Rattle.bfd_mp.specs.declared.config.TailConfig.{TailConfig}
use Rattle.hex.specs.Hex.{IsBytes}
use Rattle.bfd_num.specs.Numbers.{moment_bound, greatest_tick}
use Rattle.bfd_packet.specs.KeyChain.{KeyChain}
use Rattle.bfd_packet.specs.declared.arrival.Arrival.{Arrival}
use Rattle.bfd_packet.specs.declared.keys.AuthType.{AuthType}
use Rattle.bfd_packet.specs.declared.keys.Key.{Key}
use Rattle.bfd_rules.specs.declared.config.Config.{Config}
use Rattle.bfd_session.specs.declared.event.SessionConfig.{SessionConfig}
use Rattle.bfd_session.specs.declared.event.SessionConfig.TheVariants.{PointToPoint, Initiator, Head, Tail}
use Rattle.bfd_script.specs.declared.line.entries.Entry.{Entry}
use Rattle.bfd_script.specs.declared.line.entries.Entry.TheVariants as entries
use Rattle.bfd_script.specs.declared.line.entries.Line.{Line}
use Rattle.bfd_script.specs.declared.line.entries.Line.TheVariants as events
use Rattle.bfd_script.specs.Secrets.{key_fault}
use Rattle.bfd_script.specs.Values.{IsAddress}
use Rattle.bfd_script.specs.Verbs.{command_number}

-- a key as a line gives it: its number and the bytes of its secret fit their fields
pub record IsKey (key : Key) : Type 0 where
  pub id : key.id < 256
  pub bytes : IsBytes key.secret

-- a key that may come behind these of its session
pub record IsNext (kind : AuthType) (before : List Key) (key : Key) : Type 0 where
  pub fits : IsKey key
  pub free : key_fault (Some (record { kind = kind; list = before })) key ≡ None

-- keys that may come behind these, one after another
abbrev pub AreNext : AuthType → List Key → List Key → Type 0
AreNext kind before [] = Unit {0}
AreNext kind before (key ∷ keys) = IsNext kind before key × AreNext kind (before ++ key ∷ []) keys

-- the keys of an `auth` line and of the `key` lines after it
pub record IsChain (keys : KeyChain) : Type 0 where
  pub some : 0 < length keys.list
  pub list : AreNext keys.kind [] keys.list

-- no keys, or those of such lines
abbrev pub AreKeys : Option KeyChain → Type 0
AreKeys None = Unit {0}
AreKeys (Some keys) = IsChain keys

-- the numbers of a `p2p` line fit their fields, and its keys are none or those of such lines
pub record IsPointRow (c : Config) : Type 0 where
  pub discr : c.discr < 2 ^ 32
  pub local : IsAddress c.local
  pub remote : IsAddress c.remote
  pub mult : c.mult < 256
  pub seed : c.seed < 2 ^ 32
  pub keys : AreKeys c.keys

-- the numbers of an `sbfd` line fit their fields
pub record IsInitiatorRow (c : InitiatorConfig) : Type 0 where
  pub discr : c.discr < 2 ^ 32
  pub target : c.target < 2 ^ 32
  pub local : IsAddress c.local
  pub remote : IsAddress c.remote
  pub seed : c.seed < 2 ^ 32

-- the numbers of a `head` line fit their fields
pub record IsHeadRow (c : HeadConfig) : Type 0 where
  pub discr : c.discr < 2 ^ 32
  pub local : IsAddress c.local
  pub group : IsAddress c.group
  pub seed : c.seed < 2 ^ 32

-- the numbers of a `tail` line fit their fields
pub record IsTailRow (c : TailConfig) : Type 0 where
  pub discr : c.discr < 2 ^ 32
  pub head : c.head < 2 ^ 32
  pub group : IsAddress c.group
  pub source : IsAddress c.source

-- a session as its table lines give it
abbrev pub IsRow : SessionConfig → Type 0
IsRow (PointToPoint c) = IsPointRow c
IsRow (Initiator c) = IsInitiatorRow c
IsRow (Head c) = IsHeadRow c
IsRow (Tail c) = IsTailRow c

-- a reflector as its table line gives it
pub record IsReflector (r : Reflector) : Type 0 where
  pub discr : 0 < r.discr
  pub discr_below : r.discr < 2 ^ 32
  pub rx_least : 10000 ≤ r.rx
  pub rx_most : r.rx ≤ 60000000

-- the numbers of an `rx` line fit their fields; at most 256 bytes of the payload are kept
pub record IsReceived (moment : ℕ) (arrival : Arrival) : Type 0 where
  pub moment_below : moment < moment_bound
  pub iface : arrival.iface < 65536
  pub src : IsAddress arrival.src
  pub sport : arrival.sport ≡ 49152
  pub dst : IsAddress arrival.dst
  pub ttl : arrival.ttl < 256
  pub bytes : IsBytes arrival.payload
  pub short : length arrival.payload ≤ 256

-- the numbers that a `cmd` line and a `show` line begin with fit their fields
pub record IsAsked (moment discr : ℕ) : Type 0 where
  pub moment_below : moment < moment_bound
  pub some_discr : 0 < discr
  pub discr_below : discr < 2 ^ 32

-- an event as its line gives it
abbrev pub IsEvent : Line → Type 0
IsEvent (events.Rx moment arrival) = IsReceived moment arrival
IsEvent (events.Tick tick) = tick ≤ greatest_tick
IsEvent (events.Cmd moment discr cmd) = IsAsked moment discr × (command_number cmd < 2 ^ 64)
IsEvent (events.Show moment discr) = IsAsked moment discr

-- what a line says, as the line gives it
abbrev pub IsEntry : Entry → Type 0
IsEntry (entries.Row config) = IsFit config × IsRow config
IsEntry (entries.Reflect reflector) = IsReflector reflector
IsEntry (entries.Auth discr keys) = (discr < 2 ^ 32) × IsChain keys
IsEntry (entries.Key discr key) = (discr < 2 ^ 32) × IsKey key
IsEntry (entries.Event event) = IsEvent event
IsEntry entry = Unit {0}
