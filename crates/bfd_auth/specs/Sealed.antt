-- A control packet with its authentication section (RFC 5880 section 6.7).
use Rattle.std.specs.Prelude.{◌+◌, ◌%◌, ◌^◌, ◌++◌, if◌then◌else◌, ℕ, List, [], ◌∷◌}
use Rattle.byteorder.specs.Endian.{big_bytes}
use Rattle.bfd_packet.specs.declared.control.Control.{Control}
use Rattle.bfd_packet.specs.declared.keys.AuthType.{AuthType}
use Rattle.bfd_packet.specs.declared.keys.Key.{Key}
use Rattle.bfd_packet.specs.declared.keys.SeqState.{SeqState}
use Rattle.bfd_packet.specs.KeyChain.{KeyChain, is_password, key_at, type_number}
use Rattle.bfd_packet.specs.Layout.{text_of}
use Rattle.bfd_auth.specs.Digests.{digest_of, section_length, padded}

-- what each section begins with: Auth Type, Auth Len, Key ID
abbrev pub section_start : AuthType → Key → List ℕ
section_start kind key = type_number kind ∷ section_length kind key ∷ key.id ∷ []

-- the section of Simple Password (RFC 5880 section 4.2)
abbrev pub password_section : AuthType → Key → List ℕ
password_section kind key = section_start kind key ++ key.secret

-- the section of the other types, with these bytes in the digest's place (sections 4.3 and 4.4)
abbrev pub digest_section : AuthType → Key → ℕ → List ℕ → List ℕ
digest_section kind key sequence bytes =
    section_start kind key ++ (0 ∷ [] ++ (big_bytes 4 sequence ++ bytes))

-- the packet whose digest's place holds the padded key: the digest is computed over it
abbrev pub keyed_text : AuthType → Key → ℕ → Control → List ℕ
keyed_text kind key sequence c = text_of c (digest_section kind key sequence (padded kind key))

-- the packet's authentication section
abbrev pub section_of : AuthType → Key → ℕ → Control → List ℕ
section_of kind key sequence c =
    if is_password kind then password_section kind key
    else digest_section kind key sequence (digest_of kind (keyed_text kind key sequence c))

-- the packet's bytes, sealed with the key at the place `sending`
unfoldable pub sealed : KeyChain → ℕ → SeqState → Control → List ℕ
sealed keys sending seq c = text_of c (section_of keys.kind (key_at sending keys.list) seq.xmit c)

-- the sequence state after it: each type but Simple Password goes on to the next number, modulo 2 ^ 32
unfoldable pub sealed_seq : KeyChain → SeqState → SeqState
sealed_seq keys seq = if is_password keys.kind then seq else record seq { xmit = (seq.xmit + 1) % 2 ^ 32 }
