-- The keys of a session (RFC 5880 section 6.7).
use Rattle.std.specs.Prelude.{◌≤◌, ◌<◌, ◌&&◌, ◌==◌, ℕ, Bool, true, false, not, nat_le, List, [], ◌∷◌, length, position, find}
use Rattle.std.specs.Prelude.{slice_index_or, Option, IsTrue}
use Rattle.std.specs.List.{list_all, list_any}
use Rattle.bfd_packet.specs.declared.keys.AuthType.{AuthType}
use Rattle.bfd_packet.specs.declared.keys.AuthType.TheVariants.{Password, KeyedMd5, MeticulousMd5, KeyedSha1, MeticulousSha1}
use Rattle.bfd_packet.specs.declared.keys.Key.{Key}

-- the Auth Type of a session and its keys, in the order in which they were given
pub record KeyChain : Type 0 where
  pub kind : AuthType
  pub list : List Key

-- the type's number in a section (RFC 5880 section 4.1)
abbrev pub type_number : AuthType → ℕ
type_number Password = 1
type_number KeyedMd5 = 2
type_number MeticulousMd5 = 3
type_number KeyedSha1 = 4
type_number MeticulousSha1 = 5

-- the type carries a password in place of a sequence number and a digest (RFC 5880 section 4.2)
abbrev pub is_password : AuthType → Bool
is_password Password = true
is_password _ = false

-- the digest's bytes: 20 of SHA1, 16 of MD5 (RFC 5880 sections 4.3 and 4.4)
abbrev pub digest_size : AuthType → ℕ
digest_size KeyedSha1 = 20
digest_size MeticulousSha1 = 20
digest_size _ = 16

-- the secret has a length that the type allows: 1 to 16 bytes, 1 to 20 with SHA1
abbrev pub fits_kind : AuthType → List ℕ → Bool
fits_kind kind secret = nat_le 1 (length secret) && nat_le (length secret) (digest_size kind)

-- a key of the list has this id
abbrev pub has_id : ℕ → List Key → Bool
has_id id keys = list_any (λ key. id == key.id) keys

-- no two keys have one id
abbrev pub distinct_ids : List Key → Bool
distinct_ids [] = true
distinct_ids (key ∷ keys) = not (has_id key.id keys) && distinct_ids keys

-- one to four keys with distinct ids, each of a length that the type allows
pub record IsKeyChain (keys : KeyChain) : Type 0 where
  pub some : 0 < length keys.list
  pub few : length keys.list ≤ 4
  pub ids : IsTrue (distinct_ids keys.list)
  pub lengths : IsTrue (list_all (λ key. fits_kind keys.kind key.secret) keys.list)

-- the place of the first key with this id
abbrev pub place_of : ℕ → List Key → Option ℕ
place_of id keys = position (λ key. id == key.id) keys

-- the first key with this id
abbrev pub key_named : ℕ → List Key → Option Key
key_named id keys = find (λ key. id == key.id) keys

-- the placeholder if there is no key
abbrev pub no_key : Key
no_key = record { id = 0; secret = [] }

-- the key at a place of the list
abbrev pub key_at : ℕ → List Key → Key
key_at place keys = slice_index_or keys place no_key
