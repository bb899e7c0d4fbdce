-- Places that are made and that change.
use Rattle.std.proofs.Common.{◌≡◌, ℕ, zero, suc, ◌<◌, ◌==◌, ◌||◌, Bool, true, false, List, [], ◌∷◌, ◌++◌, length, get_or, None, Result}
use Rattle.std.proofs.Common.{if◌then◌else◌, refl, sym, ◌∙◌, arith}
use Rattle.std.specs.Prelude.{nat_lt, slice_set, Ok, Err, OnErr}
use mathlib.Core.Logic.{dite}
use native.Mathlib.Decide.{ℕ_discrete}
use Rattle.std.proofs.lemmas.Bool.{ltb-true, ltb-false, lt-ltb, le-ltb}
use Rattle.std.proofs.lemmas.Bool.Decides.{nat_tests}
use Rattle.bfd_edge.specs.declared.places.Place.{Place}
use Rattle.bfd_edge.specs.declared.places.Place.TheVariants.{Waiting, Opened, Shut}
use Rattle.bfd_edge.specs.Links.{LinkObserved}
use Rattle.bfd_edge.specs.Places.{is_opened, place_in, ports_observed, observed_in, with_place}
use Rattle.bfd_edge.specs.Ports.{after_open, after_shut}

-- a fact on a refusal, where it holds in any case
pub on_err : {X E : Type 0} → (result : Result X E) (P : Type 0) → P → OnErr result P
on_err (Ok x) P p = tt
on_err (Err e) P p = p

grown_at : {T : Type 0} → (places : List (Place T)) (n : ℕ) → place_in (places ++ Waiting ∷ []) n ≡ place_in places n
grown_at [] zero = refl
grown_at [] (suc n) = refl
grown_at (place ∷ places) zero = refl
grown_at (place ∷ places) (suc n) = grown_at places n

-- one more place, at which nothing was opened
pub grown : {T : Type 0} → (places : List (Place T)) → place_in (places ++ Waiting ∷ []) ≡ place_in places
grown places = λ r n. grown_at places n r

set_at : {T : Type 0} → (places : List (Place T)) (number : ℕ) (place : Place T) (n : ℕ) → number < length places
    → place_in (slice_set places number place) n ≡ with_place number place (place_in places) n
set_at [] number place n inside = absurd (omega arith)
set_at (x ∷ xs) zero place zero inside = refl
set_at (x ∷ xs) zero place (suc n) inside = let other : (suc n == 0) ≡ false = grind (arith, nat_tests) in rw other refl
set_at (x ∷ xs) (suc number) place zero inside = let other : (0 == suc number) ≡ false = grind (arith, nat_tests) in rw other refl
set_at (x ∷ xs) (suc number) place (suc n) inside =
    let next : (suc n == suc number) ≡ (n == number) = dite (ℕ_discrete n number) (λ same.
    let left : (suc n == suc number) ≡ true = grind (arith, nat_tests, same) in
    let right : (n == number) ≡ true = grind (arith, nat_tests, same) in
    cc) (λ other.
    let left : (suc n == suc number) ≡ false = grind (arith, nat_tests, other) in
    let right : (n == number) ≡ false = grind (arith, nat_tests, other) in
    cc) in
    rw next (set_at xs number place n (omega arith))

-- a place that changes
pub set_place : {T : Type 0} → (places : List (Place T)) {number : ℕ} (place : Place T) → number < length places
    → place_in (slice_set places number place) ≡ with_place number place (place_in places)
set_place places {number} place inside = λ r n. set_at places _ place n inside r

-- a number that was opened has a place
pub opened_inside : {T : Type 0} → (places : List (Place T)) (n : ℕ) → is_opened (place_in places n) ≡ true → n < length places
opened_inside [] n opened = absurd (cc opened)
opened_inside (place ∷ places) zero opened = omega arith
opened_inside (place ∷ places) (suc n) opened = omega (arith, opened_inside places n opened)

through : {X Y : Type 0} → (f : X → Y) (b : Bool) (x y : X) → f (if b then x else y) ≡ (if b then f x else f y)
through f true x y = refl
through f false x y = refl

-- a place that changes, and what is read of it stays
unseen : {T Y : Type 0} → (f : Place T → Y) (number n : ℕ) (place : Place T) (places : ℕ → Place T) → f place ≡ f (places number)
    → f (with_place number place places n) ≡ f (places n)
unseen f number n place places same = dite (ℕ_discrete n number)
    (λ here. let e : (n == number) ≡ true = grind (arith, nat_tests, here) in rw e (cc))
    (λ other. let e : (n == number) ≡ false = grind (arith, nat_tests, other) in rw e refl)

if_or : (b other : Bool) → (if b then true else other) ≡ (b || other)
if_or true other = refl
if_or false other = refl

never_shut : {T : Type 0} → (observed : T → LinkObserved) (place : Place T) → is_opened place ≡ false → observed_in observed place ≡ None
never_shut observed Waiting is = refl
never_shut observed Opened is = absurd (cc is)
never_shut observed (Shut kept) is = absurd (cc is)

-- ports that opened a number
pub open_observed : {T L : Type 0} → (observed : T → LinkObserved) (old new : ℕ → Place T) (number faults : ℕ) (link : L)
    → new ≡ with_place number Opened old → is_opened (old number) ≡ false
    → ports_observed observed new faults ≡ after_open number (Ok link) (ports_observed observed old faults)
open_observed observed old new number faults link is waiting = rw is (λ r. record {
  opened = λ n. (through is_opened (n == number) Opened (old n) ∙ if_or (n == number) (is_opened (old n))) r;
  shut = λ n. unseen (observed_in observed) number n Opened old (sym (never_shut observed (old number) waiting)) r;
  faults = faults;
})

-- ports that shut a number
pub shut_observed : {T : Type 0} → (observed : T → LinkObserved) (old new : ℕ → Place T) (number faults : ℕ) (kept : T)
    → new ≡ with_place number (Shut kept) old → is_opened (old number) ≡ true
    → ports_observed observed new faults ≡ after_shut number (observed kept) (ports_observed observed old faults)
shut_observed observed old new number faults kept is opened = rw is (λ r. record {
  opened = λ n. unseen is_opened number n (Shut kept) old (sym opened) r;
  shut = λ n. through (observed_in observed) (n == number) (Shut kept) (old n) r;
  faults = faults;
})

-- what stands at a number, where the list has it
pub place_there : {T : Type 0} → (places : List (Place T)) (n : ℕ) {place : Place T} → true ≡ nat_lt n (length places)
    → place ≡ get_or places n place → place_in places n ≡ place
place_there [] n inside there = absurd (omega (arith, ltb-true n 0 (sym inside)))
place_there (x ∷ xs) zero inside there = sym there
place_there (x ∷ xs) (suc n) inside there = place_there xs n
    (sym (lt-ltb n (length xs) (omega (arith, ltb-true (suc n) (suc (length xs)) (sym inside))))) there

pub place_past : {T : Type 0} → (places : List (Place T)) (n : ℕ) → false ≡ nat_lt n (length places) → place_in places n ≡ Waiting
place_past [] n past = refl
place_past (x ∷ xs) zero past = absurd (omega (arith, ltb-false 0 (suc (length xs)) (sym past)))
place_past (x ∷ xs) (suc n) past = place_past xs n (sym
    (le-ltb n (length xs) (omega (arith, ltb-false (suc n) (suc (length xs)) (sym past)))))
