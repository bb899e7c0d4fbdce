-- How many numbers of a range leave a remainder.
use Rattle.std.proofs.Common.{◌≡◌, ◌<◌, ◌+◌, ◌-◌, ◌/◌, ◌%◌, ◌==◌, ℕ, zero, suc, Bool, true, false, cond, List, ◌∷◌, length, refl, arith}
use Rattle.std.proofs.lemmas.Bool.Decides.{nat_tests}
use Rattle.std.specs.List.{filter, range_with_len}
use Rattle.bfd_load.specs.Load.{earlier}

-- how far it is to the next number that leaves the remainder r
abbrev pub gap : ℕ → ℕ → ℕ
gap r a = (r + 300 - a % 300) % 300

one_more : (b : Bool) {r : ℕ} (a n : ℕ) (us : List ℕ) → (a % 300 == r) ≡ b → r < 300 → length us ≡ (n + 299 - gap r (a + 1)) / 300
    → length (cond b (a ∷ us) us) ≡ (suc n + 299 - gap r a) / 300
one_more true {r} a n us is below rest = let same : a % 300 ≡ r = grind (arith, nat_tests) in omega (arith, rest)
one_more false {r} a n us is below rest = let other : a % 300 ≡ r → ⊥ = grind (arith, nat_tests) in omega (arith, rest, other)

count_is : (r a n : ℕ) → r < 300 → length (filter (λ u. u % 300 == r) (range_with_len a n)) ≡ (n + 299 - gap r a) / 300
count_is r a zero below = omega arith
count_is r a (suc n) below = one_more (a % 300 == r) a n (filter (λ u. u % 300 == r) (range_with_len (a + 1) n)) refl below
    (count_is r (a + 1) n below)

pub earlier_is : (t : ℕ) → 0 < t → earlier t ≡ (t - 1) / 300
unfolding earlier
earlier_is t some = omega (arith, count_is (t % 300) 1 (t - 1) (omega arith))
