-- Two ascending lists with the same numbers as often are equal.
use Rattle.bfd_wheel.proofs.Common.{◌≡◌, ◌≢◌, inl, inr, ℕ, zero, suc, ◌+◌, ◌-◌, ◌<◌, ◌≤◌, Bool, true, false, cond, List, [], ◌∷◌, ◌++◌, map}
use Rattle.bfd_wheel.proofs.Common.{length, get_or, take, drop, subst, refl, sym, ◌∙◌, ap, arith, nat_le, IsPermutation, take-append-drop}
use Rattle.bfd_wheel.proofs.Common.{take_all, length-drop, cases_eq, cases_lt, never, due_of, places, come, bit, times, counts_due, Took}
use Rattle.bfd_wheel.proofs.Common.{come_of}
use Rattle.std.specs.List.Sorted.{IsNonDecreasing}
use Rattle.std.specs.List.{sum_by}
use Rattle.std.proofs.lemmas.List.Sorted.{sum_by-IsPermutation}
use Rattle.std.proofs.lemmas.List.Sums.{sum_by-cons}
use Rattle.std.proofs.Math.Seq.{take-append_seam, drop-append_seam}
use Rattle.bfd_num.specs.Due.{has_come}
use Rattle.bfd_wheel.proofs.TakenIds.{bit_same, bit_other}
use Rattle.bfd_wheel.proofs.Walk.{counted_not}

-- no number after another is below it
Ascends : List ℕ → Type 0
Ascends [] = Unit {0}
Ascends (x ∷ xs) = ((y : ℕ) → 1 ≤ times y xs → x ≤ y) × Ascends xs

-- ---- each place that has come is in the list once

times_by : (x k : ℕ) (ps : List ℕ) (b : Bool) → times x (cond b (k ∷ ps) ps) ≡ cond b (bit x k) 0 + times x ps
times_by x k ps true = refl
times_by x k ps false = omega arith

times_step : {t : ℕ} (k d x : ℕ) (ps : List ℕ) → t < never
    → times x (cond (has_come t (due_of d)) (k ∷ ps) ps) ≡ cond (nat_le d t) (bit x k) 0 + times x ps
times_step {t} k d x ps below = cc (come_of t d below, times_by x k ps (nat_le d t))

no_bit : (b : Bool) (x k : ℕ) → x ≢ k → cond b (bit x k) 0 ≡ 0
no_bit true x k ne = bit_other x k ne
no_bit false x k ne = refl

one_bit : (b : Bool) (x k : ℕ) → x ≡ k → cond b (bit x k) 0 ≡ cond b 1 0
one_bit true x k e = cc (bit_same x)
one_bit false x k e = refl

before : {t : ℕ} (k : ℕ) (ds : List ℕ) (x : ℕ) → t < never → x < k → times x (places (has_come t) k (map due_of ds)) ≡ 0
before k [] x below h = refl
before {t} k (d ∷ ds) x below h = omega (
  arith,
  times_step k d x (places (has_come t) (k + 1) (map due_of ds)) below,
  no_bit (nat_le d t) x k (omega arith),
  before (k + 1) ds x below (omega arith),
)

from_place : {t : ℕ} (k : ℕ) (ds : List ℕ) (y : ℕ) → t < never → times (k + y) (places (has_come t) k (map due_of ds)) ≡ counts_due t ds y
from_place {t} k [] y below = sym (counted_not _ t below)
from_place {t} k (d ∷ ds) zero below = omega (
  arith,
  times_step k d (k + zero) (places (has_come t) (k + 1) (map due_of ds)) below,
  one_bit (nat_le d t) (k + zero) k (omega arith),
  before (k + 1) ds (k + zero) below (omega arith),
)
from_place {t} k (d ∷ ds) (suc y) below =
    let shift : times (k + suc y) (places (has_come t) (k + 1) (map due_of ds)) ≡ times ((k + 1) + y)
    (places (has_come t) (k + 1) (map due_of ds)) = ap (λ z. times z (places (has_come t) (k + 1) (map due_of ds))) (omega arith) in
    times_step k d (k + suc y) (places (has_come t) (k + 1) (map due_of ds)) below
    ∙ ap (λ z. z + times (k + suc y) (places (has_come t) (k + 1) (map due_of ds)))
    (no_bit (nat_le d t) (k + suc y) k (λ e. absurd (omega arith)))
    ∙ (let skip : 0 + times (k + suc y) (places (has_come t) (k + 1) (map due_of ds))
    ≡ times (k + suc y) (places (has_come t) (k + 1) (map due_of ds)) = omega arith in skip)
    ∙ shift ∙ from_place (k + 1) ds y below

pub times_come : (t : ℕ) (dues : List ℕ) (x : ℕ) → t < never → times x (come t (map due_of dues)) ≡ counts_due t dues x
times_come t dues x below = ap (λ z. times z (come t (map due_of dues))) (let plain : x ≡ 0 + x = omega arith in plain)
    ∙ from_place 0 dues x below

-- ---- ascending lists

ascends_by : (b : Bool) (k : ℕ) (ps : List ℕ) → ((y : ℕ) → 1 ≤ times y ps → k ≤ y) → Ascends ps → Ascends (cond b (k ∷ ps) ps)
unfolding Ascends
ascends_by true k ps first rest = (first, rest)
ascends_by false k ps first rest = rest

ascends_from : {t : ℕ} (k : ℕ) (ds : List ℕ) → t < never → Ascends (places (has_come t) k (map due_of ds))
unfolding Ascends
ascends_from k [] below = tt
ascends_from {t} k (d ∷ ds) below = ascends_by (has_come t (due_of d)) k _
    (λ y there. elim (cases_lt y k) [ inl less ↦ absurd (let none = before (k + 1) ds y below (omega arith) in omega arith) | inr h ↦ h ])
    (ascends_from (k + 1) ds below)

found : (y : ℕ) (xs : List ℕ) → 1 ≤ times y xs → (k : ℕ) × (k < length xs) × (get_or xs k 0 ≡ y)
found y [] there = absurd (omega arith)
found y (x ∷ xs) there = elim (cases_eq y x) [
  | inl e ↦ (0, omega arith, sym e)
  | inr ne ↦ (let rest = found y xs (omega (arith, bit_other y x ne)) in (suc rest.0, (omega (arith, rest.1)), rest.2))
]

ascends_sorted : (xs : List ℕ) → IsNonDecreasing xs → Ascends xs
unfolding Ascends
ascends_sorted [] sorted = tt
ascends_sorted (x ∷ xs) sorted = (
  (λ y there. (let at = found y xs there in let le = sorted 0 (suc at.0) 0 (omega arith) (omega arith) in omega (arith, at.2, at.1))),
  ascends_sorted xs (λ i j d le near. sorted (suc i) (suc j) d (omega arith) (omega arith)),
)

head_le : (x y : ℕ) (xs : List ℕ) → Ascends (x ∷ xs) → 1 ≤ times y (x ∷ xs) → x ≤ y
unfolding Ascends
head_le x y xs a there = elim (cases_eq y x) [
  | inl e ↦ omega arith
  | inr ne ↦ a.0 y (omega (arith, bit_other y x ne))
]

tail_of : (x : ℕ) (xs : List ℕ) → Ascends (x ∷ xs) → Ascends xs
unfolding Ascends
tail_of x xs a = a.1

same_heads : {x y : ℕ} (xs ys : List ℕ) → Ascends (x ∷ xs) → Ascends (y ∷ ys) → ((z : ℕ) → times z (x ∷ xs) ≡ times z (y ∷ ys)) → x ≡ y
same_heads {x} {y} xs ys a b e =
    let at_x = e x in
    let at_y = e y in
    let one_x = bit_same x in
    let one_y = bit_same y in
    let le = head_le x y xs a (omega arith) in
    let ge = head_le y x ys b (omega arith) in
    omega arith

same_tails : {x y : ℕ} (xs ys : List ℕ) → x ≡ y → ((z : ℕ) → times z (x ∷ xs) ≡ times z (y ∷ ys)) → (z : ℕ) → times z xs ≡ times z ys
same_tails {x} {y} xs ys same e z =
    let at_z = e z in
    let bits : bit z x ≡ bit z y = cc in
    omega arith

unique : (xs ys : List ℕ) → Ascends xs → Ascends ys → ((z : ℕ) → times z xs ≡ times z ys) → xs ≡ ys
unique [] [] a b e = refl
unique [] (y ∷ ys) a b e = absurd (let at_y = e y in omega (arith, bit_same y))
unique (x ∷ xs) [] a b e = absurd (let at_x = e x in omega (arith, bit_same x))
unique (x ∷ xs) (y ∷ ys) a b e =
    let same = same_heads xs ys a b e in
    cc (unique xs ys (tail_of x xs a) (tail_of y ys b) (same_tails xs ys same e))

-- ---- the end of an advance

times_sum : (y : ℕ) (xs : List ℕ) → times y xs ≡ sum_by (bit y) xs
times_sum y [] = refl
times_sum y (x ∷ xs) = cc (times_sum y xs, sum_by-cons (bit y) x xs)

times-permutation : {xs ys : List ℕ} → IsPermutation xs ys → (y : ℕ) → times y ys ≡ times y xs
times-permutation {xs} {ys} p y = cc (times_sum y ys, sum_by-IsPermutation (bit y) xs ys p, times_sum y xs)

-- an ascending list that has each id as often as it waited is the list of those that have come
come_is : {t : ℕ} (dues : List ℕ) {taken sorted : List ℕ} → t < never → IsPermutation taken sorted → IsNonDecreasing sorted
    → ((x : ℕ) → times x taken ≡ counts_due t dues x) → sorted ≡ come t (map due_of dues)
come_is {t} dues {sorted} below p order each = unique _ _ (ascends_sorted sorted order) (ascends_from 0 dues below)
    (λ z. cc (times-permutation p z, each z, times_come t dues z below))

-- what was appended is put in order behind what was there
pub ordered : (t from : ℕ) (dues dues2 items items1 items2 : List ℕ) → t < never → Took t dues dues2 items items1
    → ((x : ℕ) → counts_due t dues2 x ≡ 0) → from ≡ length items → take from items2 ≡ take from items1
    → IsPermutation (drop from items1) (drop from items2) → IsNonDecreasing (drop from items2) → items2 ≡ items ++ come t (map due_of dues)
ordered t from dues dues2 items items1 items2 below took none at front rest order =
    let whole = took.appended in
    let head_is : take from items2 ≡ items = cc (ap (λ (k : ℕ). take k items1) at, take-append_seam items took.taken) in
    let tail_is : drop from items1 ≡ took.taken = cc (ap (λ (k : ℕ). drop k items1) at, drop-append_seam items took.taken) in
    let sorted_is =
    come_is dues below (subst (λ xs. IsPermutation xs (drop from items2)) tail_is rest) order (λ x. (omega (arith, took.each x, none x))) in
    cc (take-append-drop from items2)

-- the part behind what was there is what was appended
pub appended_from : (from : ℕ) (items more items2 : List ℕ) → items2 ≡ items ++ more → from ≡ length items
    → take (length items2 - from) (drop from items2) ≡ more
appended_from from items more items2 whole at =
    let tail_is : drop from items2 ≡ more = cc (ap (λ (k : ℕ). drop k items2) at, drop-append_seam items more) in
    take_all (length items2 - from) (drop from items2) (omega (arith, length-drop from items2)) ∙ tail_is
