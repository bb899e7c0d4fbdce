-- Bytes that are looked at side by side.
use Rattle.bfd_script.proofs.FieldsCommon.{◌≡◌, ℕ, zero, suc, ◌-◌, ◌+◌, ◌<◌, ◌%◌, ◌^◌, ◌≤◌, cond, Bool, true, false, List, [], ◌∷◌, length}
use Rattle.bfd_script.proofs.FieldsCommon.{map, replicate, take, drop, eqb, eqb-true, ltb, ltb-false, refl, arith, and_parts, nat_tests}
use Rattle.bfd_script.proofs.FieldsCommon.{drop-drop, length-map, length-zip2, mask_l-mod, list_all, mask_l, top, zip2, is_printable}

-- what a comparison leaves in a lane
abbrev below : ℕ → ℕ → ℕ
below a b = cond (ltb a b) 255 0

abbrev mask_of : List ℕ → List ℕ → ℕ
mask_of xs ys = mask_l (map (top 7) (zip2 below xs ys))

-- a lane that isn't set
not_below : (t : Bool) (a b : ℕ) → ltb a b ≡ t → ◌≡◌ {A = ℕ} (cond (top 7 (cond t 255 0)) 1 0) 0 → b ≤ a
not_below true a b e m = absurd (omega arith)
not_below false a b e m = ltb-false _ _ e

-- the same, lane by lane
by_lanes : (xs : List ℕ) → mask_of xs (replicate (length xs) 32) ≡ 0 → mask_of (replicate (length xs) 126) xs ≡ 0
    → list_all is_printable xs ≡ true
by_lanes [] low high = refl
by_lanes (x ∷ xs) low high =
    let least = not_below (ltb x 32) x 32 refl (omega arith) in
    let most = not_below (ltb 126 x) 126 x refl (omega arith) in
    let rest = by_lanes xs (omega arith) (omega arith) in
    grind (arith, nat_tests)

-- a mask of 32 lanes has 32 bits
small : (xs ys : List ℕ) → length xs ≡ 32 → length ys ≡ 32 → mask_of xs ys % 2 ^ 64 ≡ mask_of xs ys
small xs ys p q = mask_l-mod _ 64 (omega (arith, length-map (zip2 below xs ys) (top 7), length-zip2 below xs ys (cc)))

-- a run none of whose bytes is below the space, and none above the tilde
pub by_masks : (xs : List ℕ) → length xs ≡ 32 → mask_of xs (replicate 32 32) % 2 ^ 64 ≡ 0
    → eqb (mask_of (replicate 32 126) xs % 2 ^ 64) 0 ≡ true
    → list_all is_printable xs ≡ true
by_masks xs long low high = by_lanes xs (cc (small xs (replicate 32 32) long refl))
    (cc (small (replicate 32 126) xs refl long, eqb-true _ _ high))

-- past bytes that may stand in a line
passed : (rest : List ℕ) (n : ℕ) → list_all is_printable (take n rest) ≡ true
    → list_all is_printable (drop n rest) ≡ list_all is_printable rest
passed rest zero all = refl
passed [] (suc n) all = refl
passed (byte ∷ rest) (suc n) all =
    let here : is_printable byte ≡ true = grind (arith, nat_tests) in
    rw here (passed rest n (grind (arith, nat_tests)))

-- past a run whose bytes may stand in a line
pub run_passed : (rest : List ℕ) {run after : List ℕ} (n : ℕ) → run ≡ take n rest → after ≡ drop n rest → list_all is_printable run ≡ true
    → list_all is_printable after ≡ list_all is_printable rest
run_passed rest n front behind all = rw behind (passed rest n (cc))

-- behind bytes that may stand in a line
behind : (n : ℕ) (xs : List ℕ) → list_all is_printable xs ≡ true → list_all is_printable (drop n xs) ≡ true
behind zero xs all = all
behind (suc n) [] all = refl
behind (suc n) (x ∷ xs) all = behind n xs (and_parts (is_printable x) (list_all is_printable xs) all).1

-- the end of a line whose last run may stand in it
pub end_passed : (line : List ℕ) {rest : List ℕ} → rest ≡ drop (length line - length rest) line → length rest < 32
    → length rest ≤ length line
    → list_all is_printable (drop (length line - 32) line) ≡ true → list_all is_printable rest ≡ true
end_passed line {rest} is short within all =
    let sum : length line - 32 + (length line - length rest - (length line - 32)) ≡ length line - length rest = omega arith in
    cc (
      drop-drop (length line - length rest - (length line - 32)) (length line - 32) line,
      behind (length line - length rest - (length line - 32)) (drop (length line - 32) line) all,
    )

-- what is left behind one more run
pub left_more : (line : List ℕ) {rest after : List ℕ} → rest ≡ drop (length line - length rest) line → length rest ≤ length line
    → after ≡ drop 32 rest → length after + 32 ≡ length rest
    → after ≡ drop (length line - length after) line
left_more line {rest} {after} is within e long =
    let sum : length line - length rest + 32 ≡ length line - length after = omega arith in
    cc (drop-drop 32 (length line - length rest) line)
