-- What the authentication types ask of a section and of its digest (RFC 5880 sections 4.2 to 4.4).
use Rattle.std.specs.Prelude.{◌+◌, ◌-◌, ◌++◌, if◌then◌else◌, ℕ, Bool, true, false, List, length, take, drop, replicate}
use Rattle.md5.specs.Md5.{md5}
use Rattle.sha1.specs.Sha1.{sha1}
use Rattle.bfd_packet.specs.declared.keys.AuthType.{AuthType}
use Rattle.bfd_packet.specs.declared.keys.AuthType.TheVariants.{MeticulousMd5, KeyedSha1, MeticulousSha1}
use Rattle.bfd_packet.specs.declared.keys.Key.{Key}
use Rattle.bfd_packet.specs.KeyChain.{digest_size, is_password}

-- the sequence number has to rise with each packet
abbrev pub is_meticulous : AuthType → Bool
is_meticulous MeticulousMd5 = true
is_meticulous MeticulousSha1 = true
is_meticulous _ = false

-- the digest is SHA1's
abbrev pub uses_sha1 : AuthType → Bool
uses_sha1 KeyedSha1 = true
uses_sha1 MeticulousSha1 = true
uses_sha1 _ = false

-- the type's digest of a message
abbrev pub digest_of : AuthType → List ℕ → List ℕ
digest_of kind message = if uses_sha1 kind then sha1 message else md5 message

-- the Auth Len that the type and the key ask for
abbrev pub section_length : AuthType → Key → ℕ
section_length kind key = if is_password kind then length key.secret + 3 else digest_size kind + 8

-- the key, padded with zeros to the digest's length
abbrev pub padded : AuthType → Key → List ℕ
padded kind key = key.secret ++ replicate (digest_size kind - length key.secret) 0

-- the packet with these bytes in the digest's place, which begins at byte 32
abbrev pub in_digest_place : AuthType → List ℕ → List ℕ → List ℕ
in_digest_place kind bytes packet = take 32 packet ++ (bytes ++ drop (digest_size kind) (drop 32 packet))
