-- Hexadecimal digits that are decoded into room of their own size.
use Rattle.bfd_script.proofs.FieldsCommon.{◌≡◌, ℕ, ◌*◌, ◌≤◌, ◌==◌, false, List, ◌∷◌, length, take, Ok, refl, arith, nat_tests, codes}
use Rattle.bfd_script.proofs.FieldsCommon.{decode_sized, decoded, payload_of, bytes_eq, ◌>>=◌, decode_sized-twice}
use Rattle.std.proofs.Math.Bool.{and-false}

no_dash : (field : List ℕ) → 2 ≤ length field → bytes_eq field (codes "-") ≡ false
no_dash (a ∷ b ∷ field) some = and-false (a == 45)
no_dash field some = absurd (omega (arith, some))

-- a payload of two digits or more
pub payload_by_room : (field : List ℕ) (n : ℕ) → 2 ≤ length field → length field ≡ 2 * n
    → payload_of field ≡ (decoded (decode_sized field n) >>= λ bytes. Ok (take 256 bytes))
payload_by_room field n some twice =
    let not_empty : (length field == 0) ≡ false = grind (arith, nat_tests) in
    rw (no_dash field some, not_empty, decode_sized-twice field n twice) refl
