-- The tests on a packet's authentication section (RFC 5880 sections 6.7.2 to 6.7.4), in their order.
use Rattle.std.specs.Prelude.{◌+◌, ◌-◌, ◌*◌, ◌%◌, ◌^◌, ◌==◌, ◌&&◌, ◌||◌, if◌then◌else◌, nat_le, is_none, unwrap_or, ℕ, Bool, true, false}
use Rattle.std.specs.Prelude.{not, List, [], ◌∷◌, length, slice_index, slice_range, find, Option, None, Result}
use Rattle.std.specs.Str.{bytes_eq}
use Rattle.bfd_packet.specs.declared.discard.Test.{Test}
use Rattle.bfd_packet.specs.declared.discard.Test.TheVariants.{AuthType, AuthKey, AuthLen, AuthSeq, AuthDigest}
use Rattle.bfd_packet.specs.declared.keys.AuthType.{AuthType as Kind}
use Rattle.bfd_packet.specs.declared.keys.Key.{Key}
use Rattle.bfd_packet.specs.declared.keys.SeqState.{SeqState}
use Rattle.bfd_packet.specs.KeyChain.{KeyChain, digest_size, is_password, key_named, no_key, type_number}
use Rattle.bfd_packet.specs.HeaderTests.{unless}
use Rattle.bfd_packet.specs.Layout.{word_at}
use Rattle.bfd_auth.specs.Digests.{is_meticulous, digest_of, section_length, padded, in_digest_place}

-- the key that the packet's Key ID names; a packet of 26 bytes has no Key ID
abbrev pub packet_key : List Key → List ℕ → Option Key
packet_key keys raw = if nat_le (length raw) 26 then None else key_named (slice_index raw 26) keys

-- Auth Len is what the type and the key ask for, and doesn't run past the packet
abbrev pub has_section_length : Kind → Key → List ℕ → Bool
has_section_length kind key raw =
    slice_index raw 25 == section_length kind key && nat_le (slice_index raw 25) (length raw - 24)

-- the packet's sequence number
abbrev pub sequence_of : List ℕ → ℕ
sequence_of raw = word_at 28 raw

-- s is one of the width + 1 numbers from lo on, modulo 2 ^ 32
abbrev pub window : ℕ → ℕ → ℕ → Bool
window lo width s = nat_le ((s + (2 ^ 32 - lo)) % 2 ^ 32) width

-- the sequence number is at most three times the packet's Detect Mult after the last one heard; it may be the last one
-- itself if the type isn't meticulous
abbrev pub in_window : Kind → ℕ → ℕ → ℕ → Bool
in_window kind last mult s =
    if is_meticulous kind then window ((last + 1) % 2 ^ 32) (3 * mult - 1) s
    else window last (3 * mult) s

-- the sequence number may be accepted: the type has none, or no number is known, or it lies in the window
abbrev pub may_hear : Kind → SeqState → ℕ → ℕ → Bool
may_hear kind seq mult s = is_password kind || (not seq.known || in_window kind seq.rcv mult s)

-- the digest of the packet with the padded key in the digest's place
abbrev pub right_digest : Kind → Key → List ℕ → List ℕ
right_digest kind key raw = digest_of kind (in_digest_place kind (padded kind key) raw)

-- the packet shows that its sender has the key: its password is the secret, or its digest is the right one
abbrev pub is_genuine : Kind → Key → List ℕ → Bool
is_genuine kind key raw =
    if is_password kind then bytes_eq (slice_range raw 27 (24 + slice_index raw 25)) key.secret
    else bytes_eq (slice_range raw 32 (32 + digest_size kind)) (right_digest kind key raw)

-- the sentence of each test on the section, true of a packet that fails it
abbrev pub section_fails : KeyChain → SeqState → List ℕ → Test → Bool
section_fails keys seq raw AuthType = not (slice_index raw 24 == type_number keys.kind)
section_fails keys seq raw AuthKey = is_none (packet_key keys.list raw)
section_fails keys seq raw AuthLen = not (has_section_length keys.kind (unwrap_or (packet_key keys.list raw) no_key) raw)
section_fails keys seq raw AuthSeq = not (may_hear keys.kind seq (slice_index raw 2) (sequence_of raw))
section_fails keys seq raw AuthDigest = not (is_genuine keys.kind (unwrap_or (packet_key keys.list raw) no_key) raw)
section_fails keys seq raw _ = false

-- the tests on the section, in their order
abbrev pub section_tests : List Test
section_tests = AuthType ∷ AuthKey ∷ AuthLen ∷ AuthSeq ∷ AuthDigest ∷ []

-- the state after a packet that was accepted: the types with a sequence number know this one
abbrev pub accepted_seq : Kind → SeqState → ℕ → SeqState
accepted_seq kind seq s = if is_password kind then seq else record seq { rcv = s; known = true }

-- the first test that the packet of these bytes fails, or the state after it
unfoldable pub verdict : KeyChain → SeqState → List ℕ → Result SeqState Test
verdict keys seq raw =
    unless (find (λ test. section_fails keys seq raw test) section_tests) (accepted_seq keys.kind seq (sequence_of raw))
