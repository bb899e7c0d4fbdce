-- The packets among outputs, and facts of each of them.
use Rattle.bfd_pair.proofs.Common.{◌≡◌, ◌≤◌, ◌++◌, ◌⊎◌, inl, inr, ℕ, zero, suc, Bool, true, false, List, [], ◌∷◌, length, refl, ap, subst}
use Rattle.bfd_pair.proofs.Common.{arith, Some, if◌then◌else◌, slice_get, unwrap_or, Out, Vars, same_state, changed_between, packets_among}
use Rattle.bfd_pair.proofs.Common.{Changed}
use Rattle.bfd_pair.proofs.Common.{Sent}

pub packets-append : (xs ys : List Out) → packets_among (xs ++ ys) ≡ packets_among xs ++ packets_among ys
packets-append [] ys = refl
packets-append (Changed discr old new diag ∷ xs) ys = packets-append xs ys
packets-append (Sent discr datagram ∷ xs) ys = cc (packets-append xs ys)

pub packets_few : (items : List Out) → length (packets_among items) ≤ length items
packets_few [] = omega arith
packets_few (Changed discr old new diag ∷ items) = omega (arith, packets_few items)
packets_few (Sent discr datagram ∷ items) = omega (arith, packets_few items)

-- a change of state is no packet
pub reported_packets : (discr : ℕ) (v w : Vars) → packets_among (changed_between discr v w) ≡ []
reported_packets discr v w = by_same (same_state v.state w.state)
  where
    by_same : (same : Bool) → packets_among (if same then [] else Changed discr v.state w.state w.diag ∷ []) ≡ []
    by_same true = refl
    by_same false = refl

-- a fact of each packet
abbrev pub Each : (List ℕ → Type 0) → List (List ℕ) → Type 0
Each P [] = Unit {0}
Each P (x ∷ xs) = P x × Each P xs

pub each_append : (P : List ℕ → Type 0) (xs ys : List (List ℕ)) → Each P xs → Each P ys → Each P (xs ++ ys)
each_append P [] ys h k = k
each_append P (x ∷ xs) ys h k = (h.0, each_append P xs ys h.1 k)

pub each_at : (P : List ℕ → Type 0) (xs : List (List ℕ)) (k : ℕ) {x : List ℕ} → Each P xs → slice_get xs k ≡ Some x → P x
each_at P [] zero h e = cc
each_at P [] (suc k) h e = cc
each_at P (y ∷ xs) zero {x} h e = subst P (ap (λ o. unwrap_or o x) e) h.0
each_at P (y ∷ xs) (suc k) h e = each_at P xs k h.1 e

-- a packet in the second of two lists
pub record Later (xs ys : List (List ℕ)) (k : ℕ) (x : List ℕ) : Type 0 where
  pub after : length xs ≤ k
  pub place : ℕ
  pub there : slice_get ys place ≡ Some x

-- a packet stands in the first of two lists or in the second
pub first_or_later : (xs ys : List (List ℕ)) (k : ℕ) {x : List ℕ} → slice_get (xs ++ ys) k ≡ Some x
    → (slice_get xs k ≡ Some x) ⊎ Later xs ys k x
first_or_later [] ys k e = inr (record { after = omega arith; place = k; there = e })
first_or_later (y ∷ xs) ys zero e = inl e
first_or_later (y ∷ xs) ys (suc k) e = elim (first_or_later xs ys k e) [
  | inl first ↦ inl first
  | inr later ↦ inr (record { after = omega arith; place = later.place; there = later.there })
]
