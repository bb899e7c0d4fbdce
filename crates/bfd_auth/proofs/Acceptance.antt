-- A receiver with the same keys hears what is sealed.
use Rattle.std.proofs.Common.{◌≡◌, ◌<◌, ◌≤◌, ◌+◌, ◌-◌, ◌*◌, ◌^◌, if◌then◌else◌, List, [], ◌∷◌, ℕ, zero, suc, Bool, true, false, IsTrue}
use Rattle.std.proofs.Common.{length, replicate, refl, sym, subst, arith, nat_eq, nat_le, slice_index, length-append, Some, Ok}
use Rattle.std.proofs.lemmas.Bool.Decides.{nat_tests}
use Rattle.std.proofs.lemmas.List.{take_all, drop_all, append-nil, length-replicate}
use Rattle.std.specs.Prelude.{slice_range}
use Rattle.std.specs.Str.{bytes_eq}
use Rattle.byteorder.specs.Numbers.{big_number-reads_back}
use Rattle.sha1.specs.Sha1.{digest_bytes, sha1}
use Rattle.std.specs.Int.{to_be_bytes, w32}
use Rattle.md5.proofs.StandardFacts.{length-md5}
use Rattle.bfd_packet.specs.declared.control.Control.{Control}
use Rattle.bfd_packet.specs.declared.keys.AuthType.{AuthType}
use Rattle.bfd_packet.specs.declared.keys.AuthType.TheVariants.{Password, KeyedMd5, MeticulousMd5, KeyedSha1, MeticulousSha1}
use Rattle.bfd_packet.specs.declared.keys.Key.{Key}
use Rattle.bfd_packet.specs.declared.keys.SeqState.{SeqState}
use Rattle.bfd_packet.specs.KeyChain.{KeyChain, digest_size, fits_kind, is_password, key_named, type_number}
use Rattle.bfd_packet.specs.Layout.{text_of}
use Rattle.bfd_auth.specs.Digests.{digest_of, section_length, padded, in_digest_place}
use Rattle.bfd_auth.specs.Sealed.{digest_section, keyed_text, password_section, section_of}
use Rattle.bfd_auth.specs.Verdict.{has_section_length, accepted_seq, is_genuine, may_hear, packet_key, right_digest, sequence_of, verdict}

-- a list equals itself byte by byte
bytes_eq-same : (xs : List ℕ) → bytes_eq xs xs ≡ true
bytes_eq-same [] = refl
bytes_eq-same (x ∷ xs) = let e : nat_eq x x ≡ true = grind arith in rw (e, bytes_eq-same xs) refl

-- SHA1's words have four bytes each
length-digest_bytes : (h : List ℕ) (n : ℕ) → length (digest_bytes h n) ≡ n * 4
unfolding digest_bytes
length-digest_bytes h zero = refl
length-digest_bytes h (suc n) =
    let last : length (to_be_bytes w32 (slice_index h n)) ≡ 4 = refl in
    omega (arith, length-digest_bytes h n, last, length-append (digest_bytes h n) (to_be_bytes w32 (slice_index h n)))

length-sha1 : (m : List ℕ) → length (sha1 m) ≡ 20
unfolding sha1
length-sha1 m = length-digest_bytes _ 5

-- a digest has the type's length
length-digest_of : (kind : AuthType) (m : List ℕ) → length (digest_of kind m) ≡ digest_size kind
length-digest_of Password m = length-md5 m
length-digest_of KeyedMd5 m = length-md5 m
length-digest_of MeticulousMd5 m = length-md5 m
length-digest_of KeyedSha1 m = length-sha1 m
length-digest_of MeticulousSha1 m = length-sha1 m

-- a key that fits is padded to the type's length
length-padded : (kind : AuthType) (key : Key) → length key.secret ≤ digest_size kind → length (padded kind key) ≡ digest_size kind
length-padded kind key fits =
    omega (
      arith,
      length-append key.secret (replicate (digest_size kind - length key.secret) 0),
      length-replicate {A = ℕ} (digest_size kind - length key.secret) 0,
    )

-- a packet with other bytes of the right length in the digest's place
in_digest_place-text_of : (kind : AuthType) (key : Key) (sequence : ℕ) (c : Control) (bytes old : List ℕ)
    → length bytes ≡ digest_size kind → length old ≡ digest_size kind
    → in_digest_place kind bytes (text_of c (digest_section kind key sequence old)) ≡ text_of c (digest_section kind key sequence bytes)
unfolding text_of
in_digest_place-text_of kind key sequence c bytes old fits was =
    rw (drop_all (digest_size kind) old (omega arith), was, fits, append-nil) refl

-- a packet is accepted whose section is right and whose number may be heard
accepts : (keys : KeyChain) (receiver : SeqState) (raw : List ℕ) (key : Key)
    → slice_index raw 24 ≡ type_number keys.kind → 26 < length raw → key_named (slice_index raw 26) keys.list ≡ Some key
    → slice_index raw 25 ≡ section_length keys.kind key → section_length keys.kind key ≤ length raw - 24
    → may_hear keys.kind receiver (slice_index raw 2) (sequence_of raw) ≡ true → is_genuine keys.kind key raw ≡ true
    → verdict keys receiver raw ≡ Ok (accepted_seq keys.kind receiver (sequence_of raw))
unfolding verdict
accepts keys receiver raw key kind long named size room timely genuine =
    let same : nat_eq (slice_index raw 24) (type_number keys.kind) ≡ true = grind (arith, nat_tests) in
    let short : nat_le (length raw) 26 ≡ false = grind (arith, nat_tests) in
    let found : packet_key keys.list raw ≡ Some key = rw short named in
    let whole : has_section_length keys.kind key raw ≡ true = grind (arith, nat_tests) in
    rw (same, found, whole, timely, genuine) refl

-- the right digest in its place is genuine
genuine_digest : (kind : AuthType) (key : Key) (raw digest : List ℕ) → is_password kind ≡ false
    → slice_range raw 32 (32 + digest_size kind) ≡ digest → right_digest kind key raw ≡ digest → is_genuine kind key raw ≡ true
genuine_digest kind key raw digest other body right = rw other (cc (bytes_eq-same digest))

-- the secret in the password's place is genuine
genuine_password : (kind : AuthType) (key : Key) (raw : List ℕ) → is_password kind ≡ true
    → slice_range raw 27 (24 + slice_index raw 25) ≡ key.secret → is_genuine kind key raw ≡ true
genuine_password kind key raw password body = rw password (cc (bytes_eq-same key.secret))

-- a packet with a digest is accepted
hears_digest : (keys : KeyChain) (receiver : SeqState) (c : Control) (key : Key) (xmit : ℕ)
    → is_password keys.kind ≡ false → length key.secret ≤ digest_size keys.kind → xmit < 2 ^ 32
    → key_named key.id keys.list ≡ Some key → may_hear keys.kind receiver c.mult xmit ≡ true
    → verdict keys receiver (text_of c (digest_section keys.kind key xmit (digest_of keys.kind (keyed_text keys.kind key xmit c))))
    ≡ Ok (accepted_seq keys.kind receiver xmit)
unfolding text_of
hears_digest keys receiver c key xmit kind fits range named timely =
    let digest : List ℕ = digest_of keys.kind (keyed_text keys.kind key xmit c) in
    let raw : List ℕ = text_of c (digest_section keys.kind key xmit digest) in
    let size = length-digest_of keys.kind (keyed_text keys.kind key xmit c) in
    let sequence = big_number-reads_back 4 xmit digest range in
    let asked : section_length keys.kind key ≡ digest_size keys.kind + 8 = rw kind refl in
    let count : 32 + digest_size keys.kind - 32 ≡ digest_size keys.kind = omega arith in
    let body : slice_range raw 32 (32 + digest_size keys.kind) ≡ digest =
    rw count (take_all (digest_size keys.kind) digest (omega arith)) in
    let right : right_digest keys.kind key raw ≡ digest =
    cc (in_digest_place-text_of keys.kind key xmit c (padded keys.kind key) digest (length-padded keys.kind key fits) size) in
    let genuine = genuine_digest keys.kind key raw _ kind body right in
    let heard_at : may_hear keys.kind receiver c.mult (sequence_of raw) ≡ true = rw sequence timely in
    cc (accepts keys receiver raw key refl (omega arith) named refl (omega arith) heard_at genuine)

-- a packet with a password is accepted
hears_password : (keys : KeyChain) (receiver : SeqState) (c : Control) {key : Key} (xmit : ℕ) → is_password keys.kind ≡ true
    → 1 ≤ length key.secret
    → key_named key.id keys.list ≡ Some key → verdict keys receiver (text_of c (password_section keys.kind key))
    ≡ Ok (accepted_seq keys.kind receiver xmit)
unfolding text_of
hears_password keys receiver c {key} xmit kind some named =
    let raw : List ℕ = text_of c (password_section keys.kind key) in
    let asked : section_length keys.kind key ≡ length key.secret + 3 = rw kind refl in
    let count : 24 + section_length keys.kind key - 27 ≡ length key.secret = omega arith in
    let body : slice_range raw 27 (24 + slice_index raw 25) ≡ key.secret =
    rw count (take_all (length key.secret) key.secret (omega arith)) in
    let timely : may_hear keys.kind receiver (slice_index raw 2) (sequence_of raw) ≡ true = rw kind refl in
    let same : accepted_seq keys.kind receiver (sequence_of raw) ≡ accepted_seq keys.kind receiver xmit = rw kind refl in
    cc (accepts keys receiver raw key refl (omega arith) named refl (omega arith) timely (genuine_password keys.kind key raw kind body))

-- fits_kind says both bounds on a secret
secret_bounds : (kind : AuthType) (secret : List ℕ) → IsTrue (fits_kind kind secret) → (1 ≤ length secret)
    × (length secret ≤ digest_size kind)
secret_bounds kind secret fits = (grind (arith, nat_tests), grind (arith, nat_tests))

-- a packet of either form is accepted
hears_section : (password : Bool) (keys : KeyChain) (receiver : SeqState) (c : Control) (key : Key) (xmit : ℕ)
    → is_password keys.kind ≡ password → IsTrue (fits_kind keys.kind key.secret) → xmit < 2 ^ 32
    → key_named key.id keys.list ≡ Some key → may_hear keys.kind receiver c.mult xmit ≡ true
    → verdict keys receiver (text_of c (if password then password_section keys.kind key else digest_section keys.kind key xmit
    (digest_of keys.kind (keyed_text keys.kind key xmit c)))) ≡ Ok (accepted_seq keys.kind receiver xmit)
hears_section true keys receiver c key xmit kind fits range named timely =
    hears_password keys receiver c xmit kind (secret_bounds keys.kind key.secret fits).0 named
hears_section false keys receiver c key xmit kind fits range named timely =
    hears_digest keys receiver c key xmit kind (secret_bounds keys.kind key.secret fits).1 range named timely

-- what is sealed is accepted
pub hears_sealed : (keys : KeyChain) (receiver : SeqState) (c : Control) (key : Key) (xmit : ℕ) (raw : List ℕ)
    → raw ≡ text_of c (section_of keys.kind key xmit c) → IsTrue (fits_kind keys.kind key.secret) → xmit < 2 ^ 32
    → key_named key.id keys.list ≡ Some key → IsTrue (may_hear keys.kind receiver c.mult xmit)
    → verdict keys receiver raw ≡ Ok (accepted_seq keys.kind receiver xmit)
hears_sealed keys receiver c key xmit raw same fits range named timely =
    let P : List ℕ → Type 0 = λ packet. verdict keys receiver packet ≡ Ok (accepted_seq keys.kind receiver xmit) in
    subst P (sym same) (hears_section (is_password keys.kind) keys receiver c key xmit refl fits range named timely)
