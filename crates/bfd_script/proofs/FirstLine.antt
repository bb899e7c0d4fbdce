-- The first line of a text ends at its first LF.
use Rattle.bfd_script.proofs.FieldsCommon.{◌≡◌, ℕ, ◌+◌, ◌<◌, ◌==◌, Bool, true, List, [], ◌∷◌, ◌++◌, length, take, drop, refl, zero}
use Rattle.bfd_script.proofs.FieldsCommon.{ap, arith, suc, subst, ◌≤◌, slice_index, false_from_ne_true, lines_of, eqb-true}
use Rattle.bfd_script.proofs.FieldsCommon.{NoneBefore, Nowhere, Passes, take-length}
use Rattle.bfd_script.specs.Fields.{IsUnended}

-- a byte that ends a line
abbrev is_end : ℕ → Bool
is_end byte = byte == 10

open_before : (text : List ℕ) (end : ℕ) → end ≤ length text → Nowhere (Passes is_end text) 0 end → IsUnended (take end text)
open_before text zero fits none = tt
open_before [] (suc end) fits none = absurd (omega (arith, fits))
open_before (byte ∷ text) (suc end) fits none = (
  false_from_ne_true (byte == 10) (none 0 (omega arith) (omega arith)),
  open_before text end (omega (arith, fits)) (λ k low high. none (suc k) (omega arith) (omega (arith, high))),
)

-- a text without LF
pub no_end : (text : List ℕ) → Nowhere (Passes is_end text) 0 (length text) → IsUnended text
no_end text none = subst IsUnended (take-length text) (open_before text (length text) (omega arith) none)

cut_at : (text : List ℕ) (end : ℕ) → end < length text → is_end (slice_index text end) ≡ true
    → text ≡ take end text ++ 10 ∷ drop (end + 1) text
cut_at [] end inside here = absurd (omega (arith, inside))
cut_at (byte ∷ text) zero inside here = ap (λ b. b ∷ text) (eqb-true byte 10 here)
cut_at (byte ∷ text) (suc end) inside here =
    let past : suc end + 1 ≡ suc (end + 1) = omega arith in
    rw past (ap (λ bytes. byte ∷ bytes) (cut_at text end (omega (arith, inside)) here))

-- a text with an LF
pub first_of_more : (text : List ℕ) (end : ℕ) → NoneBefore (Passes is_end text) 0 (length text) end × Passes is_end text end
    → (end < length text) × (text ≡ take end text ++ 10 ∷ drop (end + 1) text) × IsUnended (take end text)
first_of_more text end found =
    let inside = found.0.high in
    (inside, cut_at text end inside found.1, open_before text end (omega (arith, inside)) found.0.before)

-- what has no LF, and goes on without one
pub open_more : (front bytes : List ℕ) → IsUnended front → IsUnended bytes → IsUnended (front ++ bytes)
open_more [] bytes plain more = more
open_more (byte ∷ front) bytes plain more = (plain.0, open_more front bytes plain.1 more)

-- a line, and a text after it
pub lines_after : (line : List ℕ) (text : List ℕ) → IsUnended line → lines_of (line ++ 10 ∷ text) ≡ line ∷ lines_of text
lines_after [] text plain = refl
lines_after (byte ∷ line) text plain = rw (plain.0, lines_after line text plain.1) refl

-- the last line may lack its LF
pub the_last : (line : List ℕ) → IsUnended line → 0 < length line → lines_of line ≡ line ∷ []
the_last [] plain some = absurd (omega (arith, some))
the_last (byte ∷ []) plain some = rw (plain.0) refl
the_last (byte ∷ next ∷ line) plain some = rw (plain.0, the_last (next ∷ line) plain.1 (omega arith)) refl
