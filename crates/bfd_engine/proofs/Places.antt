-- Passes at their places.
use Rattle.bfd_engine.proofs.Common.{◌≡◌, ◌≢◌, ℕ, zero, suc, ◌<◌, List, [], ◌∷◌, ◌++◌, length, set, length-set, set-set, Option, Some, None}
use Rattle.bfd_engine.proofs.Common.{slice_get, refl, ap, ◌∙◌, arith, slice_get_within, same_Some, dite, ℕ_discrete, TableId, OfShard}
use Rattle.bfd_engine.proofs.Common.{Shards, Held, Knows, IsOf, AllThere}

module _ {X : Type 0} where
  pub set_here : (xs : List X) (i : ℕ) (x : X) → i < length xs → slice_get (set xs i x) i ≡ Some x
  set_here [] i x h = absurd (omega arith)
  set_here (y ∷ ys) zero x h = refl
  set_here (y ∷ ys) (suc i) x h = set_here ys i x (omega arith)

  pub set_else : (xs : List X) (i j : ℕ) (x : X) → j ≢ i → slice_get (set xs i x) j ≡ slice_get xs j
  set_else [] i j x n = refl
  set_else (y ∷ ys) zero zero x n = absurd (n refl)
  set_else (y ∷ ys) zero (suc j) x n = refl
  set_else (y ∷ ys) (suc i) zero x n = refl
  set_else (y ∷ ys) (suc i) (suc j) x n = set_else ys i j x (λ e. n (cc))

  pub last_here : (xs : List X) (x : X) (i : ℕ) → i ≡ length xs → slice_get (xs ++ x ∷ []) i ≡ Some x
  last_here [] x zero e = refl
  last_here (y ∷ ys) x (suc i) e = last_here ys x i (omega arith)
  last_here xs x i e = absurd (omega arith)

  pub front_here : (xs : List X) (x : X) (i : ℕ) → i < length xs → slice_get (xs ++ x ∷ []) i ≡ slice_get xs i
  front_here [] x i h = absurd (omega arith)
  front_here (y ∷ ys) x zero h = refl
  front_here (y ∷ ys) x (suc i) h = front_here ys x i (omega arith)

-- what a pass of a shard is, with its lock
abbrev pub K : Type 0
K = TableId × OfShard

pub same_held : {p q : K} {o : Option Held} → o ≡ Some (Some p) → o ≡ Some (Some q) → p ≡ q
same_held {p} {q} e f = same_Some p q (same_Some (Some p) (Some q) (cc))

-- a pass is lifted, and one put back
pub put_back : (k l m : Knows) (at : ℕ) (q : K) → l ≡ (k.0, set k.1 at None, k.2) → m ≡ (l.0, set l.1 at (Some q), l.2)
    → m ≡ (k.0, set k.1 at (Some q), k.2)
put_back k l m at q lifted put = rw (put, lifted, set-set) refl

-- a pass of the same lock and base is put in
pub of_set : (engine : Shards) (ps : List Held) (at : ℕ) (p q : K) → slice_get ps at ≡ Some (Some p) → q.0 ≡ p.0 → q.1.base ≡ p.1.base
    → IsOf engine ps → IsOf engine (set ps at (Some q))
of_set engine ps at p q here same base of = record {
  long = length-set ps at (Some q) ∙ of.long;
  lock = λ k r e. dite (ℕ_discrete k at) (λ is. let qr : q ≡ r =
      same_held (set_here ps at (Some q) (slice_get_within ps at (Some p) here)) (cc) in
      cc (of.lock at p here)) (λ other. of.lock k r (cc (set_else ps at k (Some q) other)));
  base_is = λ k r e. dite (ℕ_discrete k at) (λ is. let qr : q ≡ r =
      same_held (set_here ps at (Some q) (slice_get_within ps at (Some p) here)) (cc) in
      cc (of.base_is at p here)) (λ other. of.base_is k r (cc (set_else ps at k (Some q) other)));
}

pub there_set : (ps : List Held) (at : ℕ) (q : K) → AllThere ps → AllThere (set ps at (Some q))
there_set ps at q all = record {
  at = λ k h. (let inside : k < length ps = omega (arith, length-set ps at (Some q), h) in dite (ℕ_discrete k at)
      (λ is. (q, cc (set_here ps at (Some q) (omega (arith, ap (λ (n : ℕ). n) is, inside)))))
      (λ other. let t = all.at k inside in (t.0, set_else ps at k (Some q) other ∙ t.1)));
}

pub none_set : (engine : Shards) (ps : List Held) (at : ℕ) (p : K) → slice_get ps at ≡ Some (Some p) → IsOf engine ps
    → IsOf engine (set ps at None)
none_set engine ps at p here of = record {
  long = length-set ps at None ∙ of.long;
  lock = λ k r e. dite (ℕ_discrete k at)
      (λ is. let gone : Some None ≡ Some (Some r) = cc (set_here ps at None (slice_get_within ps at (Some p) here)) in absurd (cc))
      (λ other. of.lock k r (cc (set_else ps at k None other)));
  base_is = λ k r e. dite (ℕ_discrete k at)
      (λ is. let gone : Some None ≡ Some (Some r) = cc (set_here ps at None (slice_get_within ps at (Some p) here)) in absurd (cc))
      (λ other. of.base_is k r (cc (set_else ps at k None other)));
}
