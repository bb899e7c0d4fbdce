-- Which session the fields of C stand for, with the ranges of the packet file. Fields that a kind doesn't use are ignored, but `auth` has
-- to be 0 if the kind has no authentication.
use Rattle.std.specs.Prelude.{ℕ, ◌==◌, ◌&&◌, ◌||◌, Bool, List, nat_le, nat_lt, Option, None, Some, take, if◌then◌else◌}
use Rattle.bfd_packet.specs.declared.arrival.Addr.{Addr}
use Rattle.bfd_packet.specs.declared.keys.AuthType.{AuthType}
use Rattle.bfd_packet.specs.KeyChain.{KeyChain, fits_kind}
use Rattle.bfd_rules.specs.declared.config.Role.{Role}
use Rattle.bfd_rules.specs.declared.config.Role.TheVariants.{Single, Multi}
use Rattle.bfd_rules.specs.Sound.{is_interval, is_echo_interval}
use Rattle.bfd_session.specs.declared.event.SessionConfig.{SessionConfig}
use Rattle.bfd_session.specs.declared.event.SessionConfig.TheVariants.{PointToPoint, Initiator, Head, Tail}
use Rattle.bfd_script.specs.Secrets.{kind_by, one_key}
use Rattle.bfd_c.specs.declared.fields.Fields.{Fields}
use Rattle.bfd_c.specs.Wire.{addr_of}

-- one key, if its length is one that the type allows
abbrev pub key_by : AuthType → ℕ → List ℕ → Option KeyChain
key_by kind id secret = if fits_kind kind secret then Some (one_key kind id secret) else None

-- a session's keys, if there are some
abbrev pub some_keys : Option KeyChain → Option (Option KeyChain)
some_keys None = None
some_keys (Some keys) = Some (Some keys)

-- what a session authenticates with: nothing, or one key of a type 1 to 5
abbrev pub keys_from_c : Fields → Option (Option KeyChain)
keys_from_c f =
    if f.auth == 0 then Some None
    else if nat_lt 5 f.auth || (nat_lt 255 f.key_id || nat_lt 20 f.key_len) then None
    else some_keys (key_by (kind_by f.auth) f.key_id (take f.key_len f.key))

-- the discriminator and the interface
abbrev pub has_name : Fields → Bool
has_name f = nat_le 1 f.discr && nat_lt f.iface 65536

-- an interval to send at, and a Detect Mult
abbrev pub has_sending : Fields → Bool
has_sending f = is_interval f.tx && (nat_le 1 f.mult && nat_lt f.mult 256)

-- the fields that only a point-to-point session has
abbrev pub is_paired : Role → Fields → Bool
is_paired role f = nat_lt f.active 2 && (is_interval f.rx && is_echo_interval role f.echo)

-- a point-to-point session (RFC 5881, RFC 5883)
abbrev pub point_by_fields : Role → Fields → Addr → Addr → Option KeyChain → SessionConfig
point_by_fields role f local remote keys = PointToPoint (record {
  discr = f.discr;
  role = role;
  iface = f.iface;
  local = local;
  remote = remote;
  active = f.active == 1;
  tx = f.tx;
  rx = f.rx;
  mult = f.mult;
  echo = f.echo;
  seed = f.seed;
  keys = keys;
})

abbrev pub point_by : Role → Fields → Option Addr → Option Addr → Option (Option KeyChain) → Option SessionConfig
point_by role f (Some local) (Some remote) (Some keys) =
    if has_name f && (has_sending f && is_paired role f) then Some (point_by_fields role f local remote keys) else None
point_by role f local remote keys = None

-- an initiator; `other` is the reflector's discriminator (RFC 7880)
abbrev pub initiator_by_fields : Fields → Addr → Addr → SessionConfig
initiator_by_fields f local remote = Initiator (record {
  discr = f.discr;
  target = f.other;
  iface = f.iface;
  local = local;
  remote = remote;
  tx = f.tx;
  mult = f.mult;
  seed = f.seed;
})

abbrev pub initiator_by : Fields → Option Addr → Option Addr → Option SessionConfig
initiator_by f (Some local) (Some remote) =
    if has_name f && (has_sending f && nat_le 1 f.other) then Some (initiator_by_fields f local remote) else None
initiator_by f local remote = None

-- a head; `remote` is the group (RFC 8562)
abbrev pub head_with : Fields → Addr → Addr → SessionConfig
head_with f local group = Head (record {
  discr = f.discr;
  iface = f.iface;
  local = local;
  group = group;
  tx = f.tx;
  mult = f.mult;
  seed = f.seed;
})

abbrev pub head_by : Fields → Option Addr → Option Addr → Option SessionConfig
head_by f (Some local) (Some group) =
    if has_name f && has_sending f then Some (head_with f local group) else None
head_by f local group = None

-- a tail; `other` is the head's discriminator, `local` the group, `remote` the head's address (RFC 8562)
abbrev pub tail_with : Fields → Addr → Addr → SessionConfig
tail_with f group source = Tail (record {
  discr = f.discr;
  head = f.other;
  iface = f.iface;
  group = group;
  source = source;
})

abbrev pub tail_by : Fields → Option Addr → Option Addr → Option SessionConfig
tail_by f (Some group) (Some source) =
    if has_name f && nat_le 1 f.other then Some (tail_with f group source) else None
tail_by f group source = None

-- the session of the fields, of a kind without authentication
abbrev pub unkeyed_of : Fields → Option SessionConfig
unkeyed_of f =
    if f.kind == 3 then initiator_by f (addr_of f.local) (addr_of f.remote)
    else if f.kind == 4 then head_by f (addr_of f.local) (addr_of f.remote)
    else if f.kind == 5 then tail_by f (addr_of f.local) (addr_of f.remote)
    else None

-- the same where the fields ask for no authentication, else none
abbrev pub unkeyed_by : Fields → Option SessionConfig
unkeyed_by f =
    if f.auth == 0 then unkeyed_of f else None

-- the session of the fields, by the number of its kind
abbrev pub config_of : Fields → Option SessionConfig
config_of f =
    if f.kind == 1 then point_by Single f (addr_of f.local) (addr_of f.remote) (keys_from_c f)
    else if f.kind == 2 then point_by Multi f (addr_of f.local) (addr_of f.remote) (keys_from_c f)
    else unkeyed_by f
