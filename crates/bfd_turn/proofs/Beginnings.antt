-- Lists of notes that begin one another, and a caller's calls in them.
use Rattle.bfd_turn.proofs.Common.{◌≡◌, ◌≢◌, ℕ, ◌≤◌, Bool, true, false, cond, eqb, List, [], ◌∷◌, ◌++◌, length, sym, refl, ap, ◌∙◌, arith}
use Rattle.bfd_turn.proofs.Common.{length-append, append_assoc, ne_eqb, nat_le, append-nil, filter-append, Begins, longer, shorter, calls}
use Rattle.std.proofs.lemmas.Bool.Decides.{nat_tests}

module _ {A : Type 0} where
  nothing_added : (xs ys : List A) → xs ++ ys ≡ xs → ys ≡ []
  nothing_added [] ys e = e
  nothing_added (x ∷ xs) ys e = nothing_added xs ys cc

  none_of_either : (xs ys : List A) → xs ++ ys ≡ [] → (xs ≡ []) × (ys ≡ [])
  none_of_either [] ys e = (refl, e)
  none_of_either (x ∷ xs) ys e = absurd cc

  pub begins_itself : (h : List A) → Begins h h
  begins_itself h = ([], sym (append-nil h))

  begins_more : (v : List A) {h : List A} (r : List A) → Begins v h → Begins v (h ++ r)
  begins_more v r b = (b.0 ++ r, cc (append_assoc v b.0 r))

  pub begins_length : (v h : List A) → Begins v h → length v ≤ length h
  begins_length v h b = omega (arith, ap length b.1, length-append v b.0)

  -- of two beginnings of one list the shorter begins the longer
  pub begins_begins : (v w h : List A) → Begins v h → Begins w h → length v ≤ length w → Begins v w
  begins_begins [] w h a b le = (w, refl)
  begins_begins (x ∷ v) [] h a b le = absurd (omega arith)
  begins_begins (x ∷ v) (y ∷ w) [] a b le = absurd (cc)
  begins_begins (x ∷ v) (y ∷ w) (z ∷ h) a b le = let same : y ≡ x = cc in
      let r = begins_begins v w h (a.0, cc) (b.0, cc) (omega arith) in (r.0, (λ i. same i ∷ r.1 i))

  -- a beginning that is as long as the whole is the whole
  pub begins_whole : (v h : List A) → Begins v h → length h ≤ length v → v ≡ h
  begins_whole v h b le =
      let n : length b.0 ≡ 0 = omega (arith, ap length b.1, length-append v b.0) in
      sym (b.1 ∙ (ap (λ r. v ++ r) (empty b.0 n) ∙ append-nil v))
    where
      empty : (r : List A) → length r ≡ 0 → r ≡ []
      empty [] n = refl
      empty (x ∷ r) n = absurd (omega arith)

  either_longer : (P : List A → Type 0) (b : Bool) {xs ys : List A} → P xs → P ys → P (cond b xs ys)
  either_longer P true p q = p
  either_longer P false p q = q

  pub longer_begins : (xs ys h : List A) → Begins xs h → Begins ys h → Begins (longer xs ys) h
  longer_begins xs ys h p q = either_longer (λ l. Begins l h) (nat_le (length ys) (length xs)) p q

  pub shorter_begins : (xs ys h : List A) → Begins xs h → Begins ys h → Begins (shorter xs ys) h
  shorter_begins xs ys h p q = either_longer (λ l. Begins l h) (nat_le (length ys) (length xs)) q p

  by_length : (b : Bool) (xs ys : List A) → nat_le (length ys) (length xs) ≡ b → (length xs ≤ length (cond b xs ys))
      × (length ys ≤ length (cond b xs ys)) × (length (cond b ys xs) ≤ length (cond b xs ys))
  by_length true xs ys is = (omega arith, grind (arith, nat_tests), grind (arith, nat_tests))
  by_length false xs ys is = (grind (arith, nat_tests), omega arith, grind (arith, nat_tests))

  -- the longer list is no shorter than either, nor than the shorter
  pub longer_length : (xs ys : List A) → (length xs ≤ length (longer xs ys)) × (length ys ≤ length (longer xs ys))
      × (length (shorter xs ys) ≤ length (longer xs ys))
  longer_length xs ys = by_length (nat_le (length ys) (length xs)) xs ys refl

module _ {A : Type 0} (by : A → ℕ) (n : ℕ) where
  -- where the whole has no more calls of n than a beginning, what was added has none
  pub calls_added : (seen rest : List A) {h : List A} → h ≡ seen ++ rest → calls by n h ≡ calls by n seen → calls by n rest ≡ []
  calls_added seen rest is same = nothing_added (calls by n seen) (calls by n rest) (cc (filter-append (λ x. eqb (by x) n) seen rest))

  pub calls_front : (v : List A) {h : List A} → Begins v h → calls by n h ≡ [] → calls by n v ≡ []
  calls_front v b none = (none_of_either (calls by n v) (calls by n b.0)
      (sym (filter-append (λ x. eqb (by x) n) v b.0) ∙ (sym (ap (calls by n) b.1) ∙ none))).0

  -- nor has a list between the two
  pub calls_between : (v w h : List A) → Begins v w → Begins w h → calls by n h ≡ calls by n v → calls by n h ≡ calls by n w
  calls_between v w h a b same =
      let f = λ (x : A). eqb (by x) n in
      let whole : h ≡ v ++ (a.0 ++ b.0) = cc (append_assoc v a.0 b.0) in
      let rest = (none_of_either (calls by n a.0) (calls by n b.0)
      (sym (filter-append f a.0 b.0) ∙ (calls_added v (a.0 ++ b.0) whole same))).1 in
      cc (filter-append f w b.0, append-nil (calls by n w))

  -- a note of another caller is no call of n
  pub calls_other : (h : List A) (note : A) → by note ≢ n → calls by n (h ++ note ∷ []) ≡ calls by n h
  calls_other h note other =
      let last : calls by n (note ∷ []) ≡ [] = cc (ne_eqb (by note) n other) in
      cc (filter-append (λ x. eqb (by x) n) h (note ∷ []), append-nil (calls by n h))

module _ {A : Type 0} where
  pub begins_through : (v h k : List A) → Begins v h → Begins h k → Begins v k
  begins_through v h k a b = let r = begins_more v b.0 a in (r.0, cc)
