-- The four parts of an address, cut off one after another.
use Rattle.bfd_script.proofs.FieldsCommon.{◌≡◌, ℕ, ◌+◌, ◌*◌, ◌==◌, cond, Bool, true, false, List, [], ◌∷◌, Result, Ok, Err, refl, arith}
use Rattle.bfd_script.proofs.FieldsCommon.{nat_tests, is_ascii_digit, list_all, onto_first, slice_split, number_in, dotted_of, octet_of}
use Rattle.bfd_script.proofs.FieldsCommon.{part_of, quad_of, ◌>>=◌, V4}
use Rattle.bfd_script.specs.declared.fields.fault.LineFault.{LineFault}
use Rattle.bfd_script.specs.declared.fields.fault.LineFault.TheVariants.{BadAddress}

abbrev is_dot : ℕ → Bool
is_dot byte = byte == 46

abbrev parts_of : List ℕ → List (List ℕ)
parts_of field = slice_split is_dot field

-- ---- the last of the four parts

-- a field is its one part, or has more parts, since it has a byte that is no digit
abbrev Parts : List ℕ → List (List ℕ) → Type 0
Parts field [] = ⊥
Parts field (part ∷ []) = part ≡ field
Parts field (part ∷ next ∷ parts) = list_all is_ascii_digit field ≡ false

dot_is_no_digit : (byte : ℕ) → (byte == 46) ≡ true → is_ascii_digit byte ≡ false
dot_is_no_digit byte e = grind (arith, nat_tests)

more : (here digit : Bool) (byte : ℕ) (bytes : List ℕ) (parts : List (List ℕ)) → (here ≡ true → digit ≡ false) → Parts bytes parts
    → is_ascii_digit byte ≡ digit → Parts (byte ∷ bytes) (cond here ([] ∷ parts) (onto_first byte parts))
more here digit byte bytes [] dot known e = absurd known
more true digit byte bytes (part ∷ parts) dot known e = rw (e, dot refl) refl
more false digit byte bytes (part ∷ []) dot known e = cc
more false true byte bytes (part ∷ next ∷ parts) dot known e = rw (e, known) refl
more false false byte bytes (part ∷ next ∷ parts) dot known e = rw e refl

all_parts : (field : List ℕ) → Parts field (parts_of field)
all_parts [] = refl
all_parts (byte ∷ bytes) = more _ _ byte bytes (parts_of bytes) (dot_is_no_digit byte) (all_parts bytes) refl

no_octet : (field : List ℕ) → list_all is_ascii_digit field ≡ false → octet_of field ≡ Err BadAddress
no_octet field none = rw none refl

wrong_by : (a b c : Result ℕ LineFault) {d : Result ℕ LineFault} → d ≡ Err BadAddress
    → (part_of a >>= λ a. part_of b >>= λ b. part_of c >>= λ c. d >>= λ d. Ok (V4 (((a * 256 + b) * 256 + c) * 256 + d))) ≡ Err BadAddress
wrong_by (Err fault) b c e = refl
wrong_by (Ok a) (Err fault) c e = refl
wrong_by (Ok a) (Ok b) (Err fault) e = refl
wrong_by (Ok a) (Ok b) (Ok c) e = rw e refl

last_wrong : (a b c d : List ℕ) → octet_of d ≡ Err BadAddress → quad_of a b c d ≡ Err BadAddress
unfolding quad_of
last_wrong a b c d wrong = wrong_by (number_in 0 255 a) (number_in 0 255 b) (number_in 0 255 c) wrong

by_parts : (a b c d : List ℕ) (parts : List (List ℕ)) → Parts d parts → quad_of a b c d ≡ dotted_of (a ∷ b ∷ c ∷ parts)
by_parts a b c d [] e = absurd e
by_parts a b c d (part ∷ []) e = cc
by_parts a b c d (part ∷ next ∷ parts) e = last_wrong a b c d (no_octet d e)

-- what stands behind three dots is the fourth part, or no part at all
pub four : (a b c d : List ℕ) → quad_of a b c d ≡ dotted_of (a ∷ b ∷ c ∷ slice_split (λ byte. byte == 46) d)
four a b c d = by_parts a b c d (parts_of d) (all_parts d)
