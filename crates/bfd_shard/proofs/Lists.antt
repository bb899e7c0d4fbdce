-- Lists of any elements: one of several lists as it grows, a Vec after its slice was changed, and the next of a list.
use Rattle.bfd_shard.proofs.Common.{◌≡◌, ◌≢◌, ◌<◌, ◌++◌, ℕ, List, [], ◌∷◌, length, map, set, take, take_all, drop, get_or, get_or-set_same}
use Rattle.bfd_shard.proofs.Common.{get_or-set_other, sym, subst, append-nil, length-append, arith, All, drop_all, get_or-map, length-map}
use Rattle.bfd_shard.proofs.Common.{map-set, get_or-append_seam}

module _ {V A : Type 0} (f : V → List A) where
  -- the list that has grown
  pub put_own : (vs : List V) (k : ℕ) (old new : V) (x : A) → k < length vs → old ≡ get_or vs k old → f new ≡ f old ++ x ∷ []
      → get_or (map f (set vs k new)) k [] ≡ get_or (map f vs) k [] ++ x ∷ []
  put_own vs k old new x h e grown =
      cc (map-set f vs k new, get_or-set_same (map f vs) k (f new) [] (omega (arith, h, length-map vs f)), get_or-map f vs k old [] h)

  -- and the others
  pub put_other : (vs : List V) (k r : ℕ) (new : V) → r ≢ k → get_or (map f (set vs k new)) r [] ≡ get_or (map f vs) r []
  put_other vs k r new other = cc (map-set f vs k new, get_or-set_other (map f vs) k r (f new) [] other)

module _ {X : Type 0} where
  -- what a Vec is after its slice was changed
  pub whole_back : (new items : List X) (n : ℕ) → length new ≡ length items → n ≡ length items
      → take n (new ++ drop (length new) items) ≡ new
  whole_back new items n same long = cc (drop_all (length new) items (omega arith), append-nil new, take_all n new (omega arith))

  -- what is true of all is true of the next
  pub all_next : (P : X → Type 0) (items xs ys : List X) (x : X) → xs ++ x ∷ ys ≡ items → All P items → P x
  all_next P items xs ys x is all = subst P (get_or-append_seam xs x ys x)
      (subst (λ l. All P l) (sym is) all (length xs) x (omega (arith, length-append xs (x ∷ ys))))
