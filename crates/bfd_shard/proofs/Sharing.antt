-- A list that is dealt out one by one, where one element of it changes too, and the places of a table and of its shards.
use Rattle.bfd_shard.proofs.Common.{◌≡◌, ◌≢◌, ◌<◌, ◌≤◌, ◌+◌, ◌-◌, ◌*◌, ◌/◌, ◌%◌, ℕ, zero, suc, List, [], ◌∷◌, ◌++◌, append_assoc}
use Rattle.bfd_shard.proofs.Common.{append-nil, length, map, drop, drop-drop, drop_all, drop_more, get_or, set, refl, arith, slice_get}
use Rattle.bfd_shard.proofs.Common.{AllByRecursion, div-add-mod'}
use Rattle.std.proofs.Math.Nat.{mul-add-mod_self_left, mod-eq_of_lt}
use Rattle.bfd_shard.specs.Dealing.{share}

module _ {A : Type 0} where
  none_at : (xs : List A) (p q : ℕ) → length xs ≡ 0 → slice_get xs p ≡ slice_get xs q
  none_at [] zero zero h = refl
  none_at [] zero (suc q) h = refl
  none_at [] (suc p) zero h = refl
  none_at [] (suc p) (suc q) h = refl
  none_at (x ∷ xs) p q h = absurd (omega (arith, h))

times_more : (p n : ℕ) → suc p * n ≡ p * n + n
times_more p n = grind arith

start_at : (n : ℕ) → 0 ≡ 0 * n + 0
start_at n = grind arith

next_at : {n : ℕ} (p : ℕ) → 0 < n → suc (p * n + (n - 1)) ≡ suc p * n + 0
next_at {n} p some = omega (arith, times_more p n, some)

skip_at : (a c : ℕ) → suc (a + c) ≡ a + suc c
skip_at a c = omega arith

module _ {A : Type 0} where
  -- the element at a place of a share stands there in the whole list
  share_at : {n : ℕ} (c p : ℕ) (xs : List A) → 0 < n → slice_get (share n c xs) p ≡ slice_get xs (p * n + c)
  unfolding share
  share_at {n} c p [] some = none_at [] p (p * n + c) refl
  share_at {n} zero zero (x ∷ xs) some = cc (start_at n)
  share_at {n} zero (suc p) (x ∷ xs) some = cc (share_at (n - 1) p xs some, next_at p some)
  share_at {n} (suc c) p (x ∷ xs) some = cc (share_at c p xs some, skip_at (p * n) c)

  -- what is true of each is true of what is dealt
  pub all_share : (P : A → Type 0) (n c : ℕ) (xs : List A) → AllByRecursion P xs → AllByRecursion P (share n c xs)
  unfolding share
  all_share P n c [] h = tt
  all_share P n zero (x ∷ xs) h = (h.0, all_share P n (n - 1) xs h.1)
  all_share P n (suc c) (x ∷ xs) h = all_share P n c xs h.1

  -- and that is no more
  pub few_share : (n c : ℕ) (xs : List A) → length (share n c xs) ≤ length xs
  unfolding share
  few_share n c [] = omega arith
  few_share n zero (x ∷ xs) = omega (arith, few_share n (n - 1) xs)
  few_share n (suc c) (x ∷ xs) = omega (arith, few_share n c xs)

  -- one that is dealt to this shard is changed there
  pub share_set : (n c p : ℕ) (xs : List A) (y : A) → 0 < n → share n c (set xs (p * n + c) y) ≡ set (share n c xs) p y
  unfolding share
  share_set n c p [] y some = refl
  share_set n zero zero (x ∷ xs) y some = cc (start_at n)
  share_set n zero (suc p) (x ∷ xs) y some = cc (next_at p some, share_set n (n - 1) p xs y some)
  share_set n (suc c) p (x ∷ xs) y some = cc (skip_at (p * n) c, share_set n c p xs y some)

  -- one that is dealt to another shard is no change here
  pub share_other : (n c j : ℕ) (xs : List A) (y : A) → 0 < n → ((p : ℕ) → j ≢ p * n + c) → share n c (set xs j y) ≡ share n c xs
  unfolding share
  share_other n c j [] y some apart = refl
  share_other n zero zero (x ∷ xs) y some apart = absurd (apart 0 (start_at n))
  share_other n zero (suc j) (x ∷ xs) y some apart = cc (share_other n (n - 1) j xs y some (λ p e. apart (suc p) (cc (next_at p some))))
  share_other n (suc c) zero (x ∷ xs) y some apart = refl
  share_other n (suc c) (suc j) (x ∷ xs) y some apart = share_other n c j xs y some (λ p e. apart p (cc (skip_at (p * n) c)))

module _ {A B : Type 0} where
  pub share_map : (f : A → B) (n c : ℕ) (xs : List A) → share n c (map f xs) ≡ map f (share n c xs)
  unfolding share
  share_map f n c [] = refl
  share_map f n zero (x ∷ xs) = cc (share_map f n (n - 1) xs)
  share_map f n (suc c) (x ∷ xs) = share_map f n c xs

module _ {A : Type 0} where
  -- a share begins with what is left after the elements that are passed over
  pub share_from : (n c : ℕ) (xs : List A) → share n 0 (drop c xs) ≡ share n c xs
  unfolding share
  share_from n zero [] = refl
  share_from n (suc c) (x ∷ xs) = share_from n c xs
  share_from n c xs = refl

  share_one : (n : ℕ) (x : A) (xs : List A) → share n 0 (x ∷ xs) ≡ x ∷ share n (n - 1) xs
  unfolding share
  share_one n x xs = refl

  -- one element of it, and the next n further on
  pub share_next : (n at next : ℕ) (xs : List A) (x : A) → 0 < n → at < length xs → next ≡ at + n → x ≡ get_or xs at x
      → share n 0 (drop at xs) ≡ x ∷ share n 0 (drop next xs)
  share_next n at next xs x some inside next_is is =
      let split : drop at xs ≡ x ∷ drop (at + 1) xs = cc (drop_more xs at x inside) in
      let far : drop (n - 1) (drop (at + 1) xs) ≡ drop next xs =
      (let e : at + 1 + (n - 1) ≡ next = omega (arith, some, next_is) in cc (drop-drop (n - 1) (at + 1) xs)) in
      cc (share_one n x (drop (at + 1) xs), share_from n (n - 1) (drop (at + 1) xs))

  -- past the end there is none
  pub share_nothing : (n : ℕ) (xs : List A) → xs ≡ [] → share n 0 xs ≡ []
  unfolding share
  share_nothing n [] e = refl
  share_nothing n (x ∷ xs) e = cc

-- what a share so far gave, one for each element, makes up the whole with what is left
module _ {A B : Type 0} (f : A → B) (n c : ℕ) (xs : List A) where
  pub share_more : (at next : ℕ) (part more : List B) (x : A) (y : B) → 0 < n → at < length xs → next ≡ at + n → x ≡ get_or xs at x
      → y ≡ f x → more ≡ part ++ y ∷ []
      → part ++ map f (share n 0 (drop at xs)) ≡ map f (share n c xs) → more ++ map f (share n 0 (drop next xs)) ≡ map f (share n c xs)
  share_more at next part more x y some inside next_is is made pushed whole =
      cc (share_next n at next xs x some inside next_is is, append_assoc part (f x ∷ []) (map f (share n 0 (drop next xs))))

  pub share_over : (at : ℕ) (part : List B) → length xs ≤ at → part ++ map f (share n 0 (drop at xs)) ≡ map f (share n c xs)
      → part ≡ map f (share n c xs)
  share_over at part over whole = cc (append-nil part, share_nothing n _ (drop_all at xs over))

-- the places of a table, and those of its shards

swapped : (p n r : ℕ) → p * n + r ≡ n * p + r
swapped p n r = grind arith

pub not_there : (k n r p : ℕ) → 0 < n → r < n → k % n ≢ r → k ≢ p * n + r
not_there k n r p some h other = λ e. other (cc (swapped p n r, mul-add-mod_self_left n p r, mod-eq_of_lt h))

-- the session at place k of the table stands at place k / n of shard k % n
pub there : {A : Type 0} (n k : ℕ) (xs : List A) → 0 < n → slice_get (share n (k % n) xs) (k / n) ≡ slice_get xs k
there n k xs some = cc (share_at (k % n) (k / n) xs some, div-add-mod' k n)
