-- Passes that are cut, shard by shard.
use Rattle.bfd_engine.proofs.Common.{◌≡◌, ◌<◌, ◌+◌, ◌++◌, ◌∷◌, [], ℕ, List, length, length-append, set, Option, Some, slice_get, refl, ap}
use Rattle.bfd_engine.proofs.Common.{sym, ◌∙◌, arith, slice_get_within, dite, ℕ_discrete, calls, TableId, having_made, made_by, by, Shards}
use Rattle.bfd_engine.proofs.Common.{Held, Knows, IsOf, AllThere, AreNew, AreNewAt, Parted, IsCut, AreCut, CutsAt}
use Rattle.bfd_engine.proofs.Places.{K, set_here, set_else, last_here, front_here, same_held}

-- one shard is cut
pub cut_here : (number at : ℕ) (ps : List Held) (id : TableId) (p q r : K) → slice_get ps at ≡ Some (Some p) → p.0 ≡ id
    → q ≡ (id, having_made number p.1)
    → r ≡ (id, made_by number p.1) → calls by number p.1.seen ≡ [] → CutsAt number at ps (set ps at (Some q)) r
cut_here number at ps id p q r here lock is_q is_r fresh = record {
  cut = record {
    pass = p;
    before_is = here;
    after_is = cc (set_here ps at (Some q) (slice_get_within ps at (Some p) here));
    new_is = cc;
    fresh = fresh;
  };
  left = λ k other. set_else ps at k (Some q) other;
}

cut_same : {number : ℕ} {a a2 b : Option Held} (b2 : Option Held) {d d2 : Option Held} → a ≡ a2 → b ≡ b2 → d ≡ d2 → IsCut number a b d
    → IsCut number a2 b2 d2
cut_same b2 e f h cut = record {
  pass = cut.pass;
  before_is = cc;
  after_is = cc;
  new_is = cc;
  fresh = cut.fresh;
}

-- one more shard is cut
pub cut_more : (number at : ℕ) (before now after new more : List Held) (one : K) → AreCut number at before now new
    → CutsAt number at now after one
    → more ≡ new ++ Some one ∷ [] → AreCut number (at + 1) before after more
cut_more number at before now after new more one cuts cut is = record {
  long = omega (arith, ap length is, length-append new (Some one ∷ []), cuts.long);
  below = λ k h. dite (ℕ_discrete k at) (λ same. rw same (cut_same (slice_get after at) (cuts.left at (omega arith)) refl
      (cc (last_here new (Some one) at (sym cuts.long))) cut.cut)) (λ other. (let inside : k < at = omega (arith, h, other) in
      cut_same {a2 = slice_get before k} _ refl (sym (cut.left k other))
      (cc (front_here new (Some one) k (omega (arith, inside, cuts.long)))) (cuts.below k inside)));
  left = λ k h. cut.left k (λ e. omega (arith, h, e)) ∙ cuts.left k (omega (arith, h));
}

-- a pass that isn't cut yet has made none of the number
pub new_left : (number at : ℕ) (start before now new : List Held) → before ≡ start → AreNew number start → AreCut number at before now new
    → AreNewAt number now at
new_left number at start before now new is fresh cuts p e =
    fresh at p (ap (λ (ps : List Held). slice_get ps at) (sym is) ∙ (sym (cuts.left at (omega arith)) ∙ e))

parted_by : (k l o : Knows) (shard : ℕ) → IsCut o.0 (slice_get k.1 shard) (slice_get l.1 shard) (slice_get o.1 shard) → Parted k l o shard
parted_by k l o shard cut = record {
  seen = cc;
  word = cc;
  taken = cc;
  made = cc;
  kept = cc;
  seen_new = cc;
  word_new = cc;
  taken_new = cc;
  fresh = cc;
}

-- once all are cut
pub all_parted : (k l o : Knows) (at n : ℕ) (before : List Held) → before ≡ k.1 → AreCut o.0 at before l.1 o.1 → n ≡ at → (shard : ℕ)
    → shard < n → Parted k l o shard
all_parted k l o at n before is cuts end shard h = parted_by k l o shard (cut_same (slice_get l.1 shard) {d2 = slice_get o.1 shard}
    (cc) refl refl (cuts.below shard (omega (arith, h, end))))

module _ (engine : Shards) (number at : ℕ) (before after new : List Held) (cuts : AreCut number at before after new)
    (of : IsOf engine before) (all : length engine.locks ≡ at) where
  one : (k : ℕ) (p : K) → slice_get new k ≡ Some (Some p) → (u : K) × (slice_get before k ≡ Some (Some u)) × (p ≡ (u.0, made_by number u.1))
  one k p e =
      let c = cuts.below k (omega (arith, slice_get_within new k (Some p) e, cuts.long)) in
      (c.pass, c.before_is, same_held e c.new_is)

  pub new_of : IsOf engine new
  new_of = record {
    long = cc;
    lock = λ k p e. (let o = one k p e in cc (of.lock k o.0 o.1));
    base_is = λ k p e. (let o = one k p e in ap (λ x. x.1.base) o.2 ∙ of.base_is k o.0 o.1);
  }

  pub new_there : AllThere new
  new_there = record {
    at = λ k h. (let c = cuts.below k (omega (arith, h, cuts.long)) in
        ((c.pass.0, made_by number c.pass.1), c.new_is));
  }
