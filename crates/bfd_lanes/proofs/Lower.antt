-- The lowest of a list of numbers, lane by lane and block by block.
use Rattle.std.proofs.Common.{◌≡◌, ℕ, suc, ◌+◌, ◌≤◌, ◌≢◌, min, true, false, List, [], ◌∷◌, ◌++◌, map, length, get_or, take, drop, nat_lt}
use Rattle.std.proofs.Common.{nat_eq, None, Some, Fits, w64, ◌^◌, ◌-◌, ◌*◌, inl, inr, refl, sym, ◌∙◌, ap, arith, cond}
use Rattle.std.proofs.lemmas.Bool.Decides.{nat_tests, eqb_tells}
use Rattle.std.proofs.lemmas.Simd.{tops_compared, length-zip2, length-sel_l, length-chunk, chunk-drop}
use Rattle.std.proofs.lemmas.List.{drop_all, take_all, length-drop}
use lib.Lanes.{sel_l, zip2, chunk, top}
use Rattle.bfd_num.specs.Due.{sooner}
use Rattle.bfd_lanes.specs.Places.{never, due_of, least, lowest}

-- no list has a lowest above never
lowest_below : (ds : List ℕ) → lowest ds ≤ never
lowest_below [] = omega arith
lowest_below (d ∷ ds) = omega (arith, lowest_below ds)

-- never changes no lowest
pub from_never : (ds : List ℕ) → min never (lowest ds) ≡ lowest ds
from_never ds = omega (arith, lowest_below ds)

lowest-append : (xs ys : List ℕ) → lowest (xs ++ ys) ≡ min (lowest xs) (lowest ys)
lowest-append [] ys = sym (from_never ys)
lowest-append (x ∷ xs) ys = omega (arith, lowest-append xs ys)

lower_pair : (x y a b : ℕ) {m : ℕ} → m ≡ min a b → min (cond (nat_lt x y) x y) m ≡ min (min x a) (min y b)
lower_pair x y a b e = grind (arith, nat_tests)

-- the lower of each pair of lanes
picked : (xs ys : List ℕ) → length xs ≡ length ys → lowest (sel_l (zip2 nat_lt xs ys) xs ys) ≡ min (lowest xs) (lowest ys)
picked [] [] e = refl
picked [] (y ∷ ys) e = absurd (omega arith)
picked (x ∷ xs) [] e = absurd (omega arith)
picked (x ∷ xs) (y ∷ ys) e = lower_pair x y (lowest xs) (lowest ys) (picked xs ys (omega arith))

abbrev chosen : List ℕ → List ℕ → List ℕ
chosen xs ys = sel_l (map (top 63) (zip2 (λ a b. cond (nat_lt a b) (2 ^ 64 - 1) 0) xs ys)) xs ys

-- a block is taken into the lanes
pub taken_in : (lanes dues : List ℕ) (at : ℕ) → length lanes ≡ 8 → at + 8 ≤ length dues
    → min (lowest (chosen lanes (chunk at 8 dues))) (lowest (drop (at + 8) dues)) ≡ min (lowest lanes) (lowest (drop at dues))
taken_in lanes dues at wide inside =
    let cut : lowest (drop at dues) ≡ min (lowest (chunk at 8 dues)) (lowest (drop (at + 8) dues)) =
    cc (chunk-drop at 8 dues, lowest-append (chunk at 8 dues) (drop (at + 8) dues)) in
    let low : lowest (chosen lanes (chunk at 8 dues)) ≡ min (lowest lanes) (lowest (chunk at 8 dues)) =
    cc (tops_compared w64 nat_lt lanes (chunk at 8 dues), picked lanes (chunk at 8 dues) (cc (length-chunk at 8 dues inside))) in
    omega arith

pub lanes_stay : (lanes dues : List ℕ) (at : ℕ) → length lanes ≡ 8 → at + 8 ≤ length dues → length (chosen lanes (chunk at 8 dues)) ≡ 8
lanes_stay lanes dues at wide inside =
    let same : length lanes ≡ length (chunk at 8 dues) = cc (length-chunk at 8 dues inside) in
    let tests = length-zip2 nat_lt lanes (chunk at 8 dues) same in
    cc (
      tops_compared w64 nat_lt lanes (chunk at 8 dues),
      length-sel_l (zip2 nat_lt lanes (chunk at 8 dues)) lanes (chunk at 8 dues) tests (cc),
    )

first : {d e : ℕ} → e ≤ never → nat_eq d never ≡ true → d ≡ never → sooner (due_of d) (due_of e) ≡ due_of (min d e)
first {d} {e} he t is = ap (λ b. sooner (cond b None (Some d)) (due_of e)) t ∙ ap due_of (let low : e ≡ min d e = omega arith in low)

second : {d e : ℕ} → d ≤ never → nat_eq d never ≡ false → nat_eq e never ≡ true → e ≡ never
    → sooner (due_of d) (due_of e) ≡ due_of (min d e)
second {d} {e} hd f t is = ap (λ b. sooner (cond b None (Some d)) (due_of e)) f ∙ ap (λ b. sooner (Some d) (cond b None (Some e))) t
    ∙ sym (ap (λ b. cond b None (Some d)) f) ∙ ap due_of (let low : d ≡ min d e = omega arith in low)

both : {d e : ℕ} → nat_eq d never ≡ false → nat_eq e never ≡ false → d ≢ never → e ≢ never → sooner (due_of d) (due_of e) ≡ due_of (min d e)
both {d} {e} f g dn en = ap (λ b. sooner (cond b None (Some d)) (due_of e)) f ∙ ap (λ b. sooner (Some d) (cond b None (Some e))) g
    ∙ sym (ap (λ b. cond b None (Some (min d e))) (let test : nat_eq (min d e) never ≡ false = grind (arith, nat_tests) in test))

-- the sooner due tick is that of the lower number
sooner_of : (d : ℕ) {e : ℕ} → d ≤ never → e ≤ never → sooner (due_of d) (due_of e) ≡ due_of (min d e)
sooner_of d {e} hd he = elim (eqb_tells d never) [
  | inl p ↦ first he p.0 p.1
  | inr p ↦ elim (eqb_tells e never) [ inl q ↦ second hd p.0 q.0 q.1 | inr q ↦ both p.0 q.0 p.1 q.1 ]
]

-- the least due tick is that of the lowest number
pub least_is : (ds : List ℕ) → ((k : ℕ) → Fits w64 (get_or ds k 0)) → least (map due_of ds) ≡ due_of (lowest ds)
least_is [] fits = refl
least_is (d ∷ ds) fits = cc (least_is ds (λ k. fits (suc k)), sooner_of d (let h = (fits 0).fits in omega arith) (lowest_below ds))

-- at the end of the list a number is the lower one
pub at_end : (low i : ℕ) (ds : List ℕ) → low ≤ never → length ds ≤ i → min low (lowest (drop i ds)) ≡ low
at_end low i ds fits past = ap (λ es. min low (lowest es)) (drop_all i ds past) ∙ (let low_is : min low never ≡ low = omega arith in low_is)

-- the lanes, and then the numbers behind the last block
pub lanes_and_rest : (lanes dues : List ℕ) {block low low2 k : ℕ} → block ≡ k → min (lowest lanes) (lowest (drop (8 * block) dues)) ≡ lowest
    dues → low ≡ min never (lowest lanes) → low2 ≡ min low (lowest (take (length dues - 8 * k) (drop (8 * k) dues))) → low2 ≡ lowest dues
lanes_and_rest lanes dues {block} {k} same value first last =
    let whole = ap lowest (take_all (length dues - 8 * k) (drop (8 * k) dues) (simp length-drop (omega arith))) in
    let here : lowest (drop (8 * block) dues) ≡ lowest (drop (8 * k) dues) = cc in
    omega (arith, from_never lanes)
