-- The keys of the table lines `auth DISCR TYPE KEYID SECRET` and `key DISCR KEYID SECRET`.
use Rattle.std.specs.Prelude.{ℕ, ◌==◌, nat_le, not, List, [], ◌∷◌, length, Option, Some, None, Result, Ok, Err, if◌then◌else◌}
use Rattle.bfd_packet.specs.KeyChain.{KeyChain, fits_kind, has_id}
use Rattle.bfd_packet.specs.declared.keys.AuthType.{AuthType}
use Rattle.bfd_packet.specs.declared.keys.AuthType.TheVariants.{Password, KeyedMd5, MeticulousMd5, KeyedSha1, MeticulousSha1}
use Rattle.bfd_packet.specs.declared.keys.Key.{Key}
use Rattle.bfd_script.specs.declared.fields.fault.LineFault.{LineFault}
use Rattle.bfd_script.specs.declared.fields.fault.LineFault.TheVariants.{OutOfRange, NoSuchSession, SameKey, TooMany}
use Rattle.bfd_script.specs.Fields.{number_in}
use Rattle.bfd_script.specs.Gives.{◌>>=◌}
use Rattle.bfd_script.specs.Values.{bytes_of}

-- the Auth Type of a number 1 to 5 (RFC 5880 section 4.1)
abbrev pub kind_by : ℕ → AuthType
kind_by n =
    if n == 1 then Password
    else if n == 2 then KeyedMd5
    else if n == 3 then MeticulousMd5
    else if n == 4 then KeyedSha1
    else MeticulousSha1

-- a field that is an Auth Type
abbrev pub auth_type_of : List ℕ → Result AuthType LineFault
auth_type_of field = number_in 1 5 field >>= λ n. Ok (kind_by n)

-- bytes that are a secret: at least one, and at most as many as the type allows
abbrev pub fitting : AuthType → List ℕ → Result (List ℕ) LineFault
fitting kind bytes = if fits_kind kind bytes then Ok bytes else Err OutOfRange

-- a field that is a secret
abbrev pub secret_of : AuthType → List ℕ → Result (List ℕ) LineFault
secret_of kind field = bytes_of field >>= λ bytes. fitting kind bytes

-- the keys of an `auth` line: one
abbrev pub one_key : AuthType → ℕ → List ℕ → KeyChain
one_key kind id secret = record { kind = kind; list = record { id = id; secret = secret } ∷ [] }

-- the last three values of an `auth` line
unfoldable pub chain_of : List ℕ → List ℕ → List ℕ → Result KeyChain LineFault
chain_of kind id secret = do
  kind ← auth_type_of kind
  id ← number_in 0 255 id
  secret ← secret_of kind secret
  Ok (one_key kind id secret)

-- the last two values of a `key` line; the secret fits some type, and the table checks that it fits the session's
unfoldable pub key_of : List ℕ → List ℕ → Result Key LineFault
key_of id secret = do
  id ← number_in 0 255 id
  secret ← secret_of KeyedSha1 secret
  Ok (record { id = id; secret = secret })

-- the fault of one more key for a session with these keys: its secret doesn't fit, there are none, its number is taken, or
-- there are four; for a session without keys, 1 to 16 bytes fit
abbrev pub key_fault : Option KeyChain → Key → Option LineFault
key_fault None key = if fits_kind Password key.secret then Some NoSuchSession else Some OutOfRange
key_fault (Some keys) key =
    if not (fits_kind keys.kind key.secret) then Some OutOfRange
    else if has_id key.id keys.list then Some SameKey
    else if nat_le 4 (length keys.list) then Some TooMany
    else None
