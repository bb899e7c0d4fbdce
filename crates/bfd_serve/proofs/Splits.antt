-- Passes that are split off one after another.
use Rattle.bfd_serve.proofs.Common.{◌≡◌, suc, ◌+◌, ◌<◌, ◌≤◌, ◌++◌, length, map, refl, ap, ap₂, sym, ◌∙◌, subst, length-append, arith, All}
use Rattle.bfd_serve.proofs.Common.{sum_by, All-push, All-nil, All-cons, All-weaker, All-tail, All-head, map-append, sum_by-le, Begins}
use Rattle.bfd_serve.proofs.Common.{numbers_of, begins_itself, begins_whole, Shards, Knows, IsOf, AllThere, seen_at, taken_at, mine}
use Rattle.bfd_serve.proofs.Common.{number_of, numbers, IsOther, IsFresh, HasSplit, calls_kept, AreJoined, HasNoCalls, IsUnserved, ℕ, List}
use Rattle.bfd_serve.proofs.Common.{[], ◌∷◌, Parted}
use Rattle.bfd_engine.specs.Opening.{IsNewPass}

module _ (engine : Shards) where
  pub split_none : {l : Knows} → IsNewPass engine l → HasSplit engine l [] 0
  split_none new = record {
    of = new.of;
    there = new.there;
    number = new.number;
    long = refl;
    numbers_are = refl;
    each = All-nil (IsFresh engine);
    seen = new.seen;
    taken = new.taken;
    kept = new.kept;
    made = new.made;
  }

  numbers_next : (n : ℕ) → numbers (n + 1) ≡ numbers n ++ (n + 1) ∷ []
  numbers_next n = let e : n + 1 ≡ suc n = omega arith in cc

  pub split_more : {l m o : Knows} {os : List Knows} {n : ℕ} → HasSplit engine l os n → l.2 ≡ n → IsOf engine m.1 → AllThere m.1 → m.0 ≡ 0
      → o.0 ≡ l.2 + 1 → IsOf engine o.1 → AllThere o.1
      → ((s : ℕ) → s < length engine.locks → Parted l m o s) → HasSplit engine m (os ++ o ∷ []) (n + 1)
  split_more {o} {os} {n} p used of there zero_is number of_new there_new parted = let num : o.0 ≡ n + 1 = cc in record {
    of = of;
    there = there;
    number = zero_is;
    long = cc (length-append os (o ∷ []));
    numbers_are = cc (map-append number_of os (o ∷ []), ap₂ (λ x y. x ++ y ∷ []) p.numbers_are num, numbers_next n);
    each = All-push (IsFresh engine) os o p.each (record {
      other = record { of = of_new; there = there_new; number = λ z. absurd (omega (arith, sym num ∙ z)) };
      seen = λ s h. (parted s h).seen_new ∙ p.seen s h;
      taken = λ s h. (parted s h).taken_new;
    });
    seen = λ s h. (parted s h).seen ∙ p.seen s h;
    taken = λ s h. (parted s h).taken ∙ p.taken s h;
    kept = λ s h. (parted s h).kept ∙ p.kept s h;
    made = λ s h. cc ((parted s h).made, ap₂ (λ x y. x ++ y ∷ []) (p.made s h) num, numbers_next n);
  }

  -- a refused split leaves every shard's pass
  pub split_refused : {l : Knows} (m : Knows) {os : List Knows} {n : ℕ} → HasSplit engine l os n → m.1 ≡ l.1 → IsOf engine m.1
      → AllThere m.1 → m.0 ≡ 0 → HasSplit engine m os n
  split_refused m p same of there zero_is = record {
    of = of;
    there = there;
    number = zero_is;
    long = p.long;
    numbers_are = p.numbers_are;
    each = p.each;
    seen = λ s h. cc (p.seen s h);
    taken = λ s h. cc (p.taken s h);
    kept = λ s h. cc (p.kept s h);
    made = λ s h. cc (p.made s h);
  }

  pub others_of : (os : List Knows) → All (IsFresh engine) os → All (IsOther engine) os
  others_of os each = All-weaker (IsFresh engine) (IsOther engine) (λ o h. h.other) os each

  -- passes that made no call
  none_kept : {s : ℕ} (os : List Knows) → s < length engine.locks → All (IsFresh engine) os → All HasNoCalls (calls_kept s os)
  none_kept [] h each = All-nil HasNoCalls
  none_kept {s} (o ∷ os) h each =
      All-cons HasNoCalls (o.0, mine o s) (calls_kept s os) (cc ((All-head (IsFresh engine) o os each).seen s h))
      (none_kept os h (All-tail (IsFresh engine) o os each))

  pub kept_numbers : (s : ℕ) (os : List Knows) → numbers_of (calls_kept s os) ≡ map number_of os
  kept_numbers s [] = refl
  kept_numbers s (o ∷ os) = cc (kept_numbers s os)

  pub kept_length : (s : ℕ) (os : List Knows) → length (calls_kept s os) ≡ length os
  kept_length s [] = refl
  kept_length s (o ∷ os) = ap suc (kept_length s os)

  none_taken : {s : ℕ} (os : List Knows) → s < length engine.locks → All (IsFresh engine) os → sum_by (λ (o : Knows). taken_at o s) os ≤ 0
  none_taken {s} os h each =
      let a = sum_by-le (λ o. taken_at o s) 0 os (All-weaker (IsFresh engine) (λ o. taken_at o s ≤ 0) (λ o n. omega (arith, n.taken s h)) os
      each) in omega arith

  pub unserved : {l m : Knows} {os : List Knows} {n : ℕ} → HasSplit engine l os n → IsOf engine m.1 → AllThere m.1 → m.0 ≡ 0
      → ((s : ℕ) → s < length engine.locks → AreJoined l os m s) → IsUnserved engine m
  unserved {m} {os} p of there zero_is joined = record {
    of = of;
    there = there;
    number = zero_is;
    seen = λ s h. begins_whole (seen_at m s) [] ((joined s h).least [] (subst (λ w. Begins w []) (sym (p.seen s h)) (begins_itself []))
        (All-weaker (IsFresh engine) (λ o. Begins (seen_at o s) []) (λ o q. subst (λ w. Begins w []) (sym (q.seen s h)) (begins_itself []))
        os p.each)) (omega arith);
    taken = λ s h. (let a = (joined s h).taken in omega (arith, p.taken s h, none_taken os h p.each));
    kept = λ s h. subst (All HasNoCalls) (sym ((joined s h).kept ∙ ap (λ w. w ++ calls_kept s os) (p.kept s h))) (none_kept os h p.each);
    made = λ s h. cc ((joined s h).made, p.made s h, kept_numbers s os, (joined s h).kept, p.kept s h);
  }
