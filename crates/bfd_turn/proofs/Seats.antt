-- Numbers in a list, a function changed at one number, and the views of a table.
use Rattle.bfd_turn.proofs.Common.{◌≡◌, ◌≢◌, ◌⊎◌, ℕ, zero, suc, ◌+◌, ◌<◌, Bool, true, false, cond, eqb, List, [], ◌∷◌, ◌++◌, length, set}
use Rattle.bfd_turn.proofs.Common.{get_or, sym, refl, ◌∙◌, subst, inl, inr, ⊎_elim, arith, eq-eqb, ne_eqb, eqb-true, ◌||◌, Option, None}
use Rattle.bfd_turn.proofs.Common.{All, All-tail, some, some-injective, some-ne-none, dite, ℕ_discrete, get_elem?, View, has, numbers_of}
use Rattle.bfd_turn.proofs.Common.{total_taken, false≢true}

pub has_older : (k : ℕ) (ms : List ℕ) (n : ℕ) → has k ms ≡ true → has k (ms ++ n ∷ []) ≡ true
has_older k [] n e = absurd cc
has_older k (m ∷ ms) n e = elim (eqb m k) as (λ b. (b || has k ms) ≡ true
    → (b || has k (ms ++ n ∷ [])) ≡ true) [ true ↦ λ _. refl | false ↦ λ h. has_older k ms n h ] e

has_newest : (ms : List ℕ) (n : ℕ) → has n (ms ++ n ∷ []) ≡ true
has_newest [] n = cc (eq-eqb n n refl)
has_newest (m ∷ ms) n = elim (eqb m n) as (λ b. (b || has n (ms ++ n ∷ [])) ≡ true) [ true ↦ refl | false ↦ has_newest ms n ]

pub has_either : (k : ℕ) (ms : List ℕ) (n : ℕ) → has k (ms ++ n ∷ []) ≡ true → (has k ms ≡ true) ⊎ (n ≡ k)
has_either k [] n e = inr (eqb-true n k (elim (eqb n k) as (λ b. (b || false) ≡ true → b ≡ true) [ true ↦ λ _. refl | false ↦ λ h. h ] e))
has_either k (m ∷ ms) n e = elim (eqb m k) as (λ b. (b || has k (ms ++ n ∷ [])) ≡ true
    → ((b || has k ms) ≡ true) ⊎ (n ≡ k)) [ true ↦ λ _. inl refl | false ↦ λ h. has_either k ms n h ] e

-- a number that is not in the longer list is not in the shorter, and is not the newest
pub has_not : (k : ℕ) (ms : List ℕ) (n : ℕ) → has k (ms ++ n ∷ []) ≡ false → (has k ms ≡ false) × (k ≢ n)
has_not k ms n e = (
  older (has k ms) refl,
  λ same. false≢true
      (sym e ∙ subst (λ x. has x (ms ++ n ∷ []) ≡ true) (sym same) (has_newest ms n)),
)
  where
    older : (b : Bool) → has k ms ≡ b → has k ms ≡ false
    older true is = absurd (false≢true (sym e ∙ has_older k ms n is))
    older false is = is

pub has_number : {N : Type 0} (js : List (ℕ × List N)) (k : ℕ) (d : ℕ × List N) → k < length js
    → has (get_or js k d).0 (numbers_of js) ≡ true
has_number [] k d h = absurd (omega arith)
has_number (j ∷ js) zero d h = cc (eq-eqb j.0 j.0 refl)
has_number (j ∷ js) (suc k) d h = elim (eqb j.0 (get_or js k d).0) as
    (λ b. (b || has (get_or js k d).0 (numbers_of js)) ≡ true) [ true ↦ refl | false ↦ has_number js k d (omega arith) ]

-- a number above each of a list is not in it
pub has_above : (ms : List ℕ) {n : ℕ} → All (λ m. m < n) ms → has n ms ≡ false
has_above [] all = refl
has_above (m ∷ ms) {n} all = let first = all 0 0 (omega arith) in
    cc (ne_eqb m n (λ e. omega arith), has_above ms (All-tail (λ k. k < n) m ms all))

-- a function with another answer at one number
pub put : (ℕ → Option ℕ) → ℕ → Option ℕ → ℕ → Option ℕ
put f n c k = cond (eqb k n) c (f k)

pub put_here : (f : ℕ → Option ℕ) (n : ℕ) (c : Option ℕ) → put f n c n ≡ c
unfolding put
put_here f n c = cc (eq-eqb n n refl)

pub put_else : (f : ℕ → Option ℕ) (n : ℕ) (c : Option ℕ) (k : ℕ) → k ≢ n → put f n c k ≡ f k
unfolding put
put_else f n c k other = cc (ne_eqb k n other)

-- where the answer is a place, that place is the new one at n, and an old one elsewhere
pub put_none : (f : ℕ → Option ℕ) (n k : ℕ) → (k ≢ n → f k ≡ None) → put f n None k ≡ None
unfolding put
put_none f n k old = dite (ℕ_discrete k n) (λ e. cc (eq-eqb k n e)) (λ ne. cc (ne_eqb k n ne, old ne))

module _ {A : Type 0} where
  pub at_below : (l : List A) (i : ℕ) (a : A) → get_elem? l i ≡ some a → i < length l
  at_below [] i a e = absurd (some-ne-none a (sym e))
  at_below (x ∷ xs) zero a e = omega arith
  at_below (x ∷ xs) (suc i) a e = omega (arith, at_below xs i a e)

  pub at_same : (l : List A) (i : ℕ) (a b : A) → get_elem? l i ≡ some a → get_elem? l i ≡ some b → a ≡ b
  at_same l i a b p q = some-injective a b (cc)

  -- the newest of a list stands at the old length, and no older one does
  pub at_newest : (l : List A) (a : A) {b : A} (j : ℕ) → get_elem? (l ++ a ∷ []) j ≡ some b
      → ((j < length l) × (get_elem? l j ≡ some b)) ⊎ ((j ≡ length l) × (a ≡ b))
  at_newest [] a {b} zero e = inr (refl, some-injective a b e)
  at_newest [] a {b} (suc j) e = absurd (some-ne-none b (sym e))
  at_newest (x ∷ xs) a zero e = inl (omega arith, e)
  at_newest (x ∷ xs) a (suc j) e = ⊎_elim (λ t. let p = t.0 in inl (omega arith, t.1)) (λ t. let p = t.0 in inr (omega arith, t.1))
      (at_newest xs a j e)

module _ {N B : Type 0} where
  pub total_set : (views : List (View N B)) (i : ℕ) (v w : View N B) → get_elem? views i ≡ some v
      → total_taken (set views i w) + v.taken ≡ total_taken views + w.taken
  total_set [] i v w e = absurd (some-ne-none v (sym e))
  total_set (u ∷ us) zero v w e = let p : u.taken ≡ v.taken = cc (some-injective u v e) in omega arith
  total_set (u ∷ us) (suc i) v w e = omega (arith, total_set us i v w e)

  pub total_newest : (views : List (View N B)) (w : View N B) → total_taken (views ++ w ∷ []) ≡ total_taken views + w.taken
  total_newest [] w = omega arith
  total_newest (u ∷ us) w = omega (arith, total_newest us w)

  none_taken : (views : List (View N B)) → ((j : ℕ) (u : View N B) → get_elem? views j ≡ some u → u.taken ≡ 0) → total_taken views ≡ 0
  none_taken [] h = refl
  none_taken (u ∷ us) h = let q = none_taken us (λ j x e. h (suc j) x e) in omega (arith, h 0 u refl)

  -- where no other view has given back a turn
  pub total_one : (views : List (View N B)) (i : ℕ) (v : View N B) → get_elem? views i ≡ some v
      → ((j : ℕ) (u : View N B) → get_elem? views j ≡ some u → j ≢ i → u.taken ≡ 0) → total_taken views ≡ v.taken
  total_one [] i v e h = absurd (some-ne-none v (sym e))
  total_one (u ∷ us) zero v e h =
      let p : u.taken ≡ v.taken = cc (some-injective u v e) in
      let q = none_taken us (λ j x at. h (suc j) x at (λ z. omega arith)) in omega arith
  total_one (u ∷ us) (suc i) v e h =
      let p = h 0 u refl (λ z. omega arith) in
      let q = total_one us i v e (λ j x at other. h (suc j) x at (λ z. other (omega arith))) in omega arith
