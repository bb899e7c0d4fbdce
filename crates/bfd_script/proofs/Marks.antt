-- Spaces that are marked by bits.
use Rattle.bfd_script.proofs.FieldsCommon.{◌≡◌, ℕ, zero, suc, ◌+◌, ◌-◌, ◌*◌, ◌/◌, ◌^◌, ◌<◌, ◌≤◌, ◌==◌, cond, not, Bool, true, false, List}
use Rattle.bfd_script.proofs.FieldsCommon.{[], ◌∷◌, length, map, take, drop, refl, sym, arith, drop-map, drop-take, length-take-le}
use Rattle.bfd_script.proofs.FieldsCommon.{trailing_mask_l, position_or_len, mask_l, count_trailing_zeros}
use Rattle.std.proofs.lemmas.Nat.{shr-shr}
use Rattle.bfd_script.proofs.Cuts.{near}

none : (n : ℕ) → 0 / 2 ^ n ≡ 0
none zero = refl
none (suc n) =
    let e : suc n ≡ 1 + n = omega arith in
    cc (shr-shr 0 1 n, none n)

half : (b : Bool) (m : ℕ) → m ≡ (cond b 1 0 + 2 * m) / 2 ^ 1
half true m = omega arith
half false m = omega arith

-- the marks behind some bytes
behind : (n : ℕ) (ms : List Bool) → mask_l (drop n ms) ≡ mask_l ms / 2 ^ n
behind zero ms = omega arith
behind (suc n) [] = sym (none (suc n))
behind (suc n) (b ∷ ms) =
    let e : 1 + n ≡ suc n = omega arith in
    cc (behind n ms, half b (mask_l ms), shr-shr (cond b 1 0 + 2 * mask_l ms) 1 n)

found_step : (b : Bool) (place : ℕ) {long m : ℕ} → 0 < cond b 1 0 + 2 * m → (0 < m → place < long) → cond (not b) (1 + place) 0 < suc long
found_step true place some known = omega arith
found_step false place some known = omega (arith, known (omega (arith, some)))

-- where a mark is, a byte passes
found : (p : ℕ → Bool) (xs : List ℕ) → 0 < mask_l (map p xs) → position_or_len p xs < length xs
found p [] some = absurd (omega (arith, some))
found p (x ∷ xs) some = found_step (p x) (position_or_len p xs) some (λ l. found p xs l)

-- the marks of the bytes that are left
pub later : (p : ℕ → Bool) (xs : List ℕ) {marked place : ℕ} → place < marked
    → mask_l (map p (take marked xs)) / 2 ^ place / 2 ^ 1 ≡ mask_l (map p (take (marked - (place + 1)) (drop (place + 1) xs)))
later p xs {marked} {place} low =
    let k : ℕ = place + 1 in
    let sum : k + (marked - k) ≡ marked = omega arith in
    cc (
      shr-shr (mask_l (map p (take marked xs))) place 1,
      behind k (map p (take marked xs)),
      drop-map p k (take marked xs),
      drop-take k (marked - k) xs,
    )

-- the first mark is at the first byte that passes
pub placed : (byte : ℕ) (text : List ℕ) {marked marks : ℕ} → 0 < marks → marked ≤ length text → marked ≤ 64
    → marks ≡ mask_l (map (λ other. other == byte) (take marked text))
    → (count_trailing_zeros 64 marks ≡ position_or_len (λ other. other == byte) text) × (count_trailing_zeros 64 marks < marked)
placed byte text {marked} {marks} some within few e =
    let p : ℕ → Bool = λ other. other == byte in
    let xs : List ℕ = take marked text in
    let long = length-take-le marked text within in
    let set : 0 < mask_l (map p xs) = rw (← e) some in
    let at : count_trailing_zeros 64 marks ≡ position_or_len p xs = cc (trailing_mask_l p 64 xs (omega (arith, long)) set) in
    let low : count_trailing_zeros 64 marks < marked = omega (arith, at, found p xs set, long) in
    (near byte text xs marked (count_trailing_zeros 64 marks) refl at low, low)
