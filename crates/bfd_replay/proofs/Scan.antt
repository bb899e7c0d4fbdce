-- The least of ranks is the least of keys.
use Rattle.std.proofs.Math.ListN.{get_or-map}
use Rattle.bfd_replay.proofs.ReportCommon.{◌≡◌, ◌≢◌, ◌⊎◌, inl, inr, refl, ◌<◌, ◌≤◌, ◌+◌, ◌*◌, ◌/◌, ◌%◌, ◌^◌, ◌==◌, ◌&&◌, ◌||◌, ℕ, false}
use Rattle.bfd_replay.proofs.ReportCommon.{List, length, length-map, get_or, arith, nat_lt, nat_tests, div-add-mod', mod-lt, Option, None}
use Rattle.bfd_replay.proofs.ReportCommon.{Some, Key, precedes, HasAll, IsLeast, head_key, keys, rank_key}

pub before_or_at : {k : ℕ} (n : ℕ) → k < n + 1 → (k < n) ⊎ (k ≡ n)
before_or_at n h = grind arith

ordered : (ae ad be bd : ℕ) → ad < 2 ^ 32 → bd < 2 ^ 32
    → (nat_lt ae be || (ae == be && nat_lt ad bd)) ≡ nat_lt (ae * 2 ^ 32 + ad) (be * 2 ^ 32 + bd)
ordered ae ad be bd a b = grind (arith, nat_tests)

-- keys stand as their ranks do
pub rank_order : (a b : ℕ) → precedes (rank_key a) (rank_key b) ≡ nat_lt a b
rank_order a b = cc (
  ordered (a / 2 ^ 32) (a % 2 ^ 32) (b / 2 ^ 32) (b % 2 ^ 32) (mod-lt a (omega arith)) (mod-lt b (omega arith)),
  div-add-mod' a (2 ^ 32),
  div-add-mod' b (2 ^ 32),
)

pub not_less : {a b : ℕ} → b ≤ a → nat_lt a b ≡ false
not_less h = grind (arith, nat_tests)

-- the best so far, of rank lowest
pub record Best (heads : List (Option ℕ)) (n best lowest : ℕ) : Type 0 where
  pub there : best < length heads → get_or heads best None ≡ Some lowest
  pub some : (best < length heads) ⊎ (lowest + 1 ≡ 2 ^ 64)
  pub least : (r rank : ℕ) → r < n → get_or heads r None ≡ Some rank → (best < length heads) × (lowest ≤ rank)

same_rank : {o : Option ℕ} {a b : ℕ} → o ≡ Some a → o ≡ Some b → a ≡ b
same_rank h k = cc

pub lower : (heads : List (Option ℕ)) {s best lowest rank : ℕ} → Best heads s best lowest → s < length heads
    → get_or heads s None ≡ Some rank → rank ≤ lowest → Best heads (s + 1) s rank
lower heads {s} b inside is low = record {
  there = λ k. is;
  some = inl inside;
  least = λ r other k h. (
    inside,
    elim (before_or_at s k) [
      | inl before ↦ omega (arith, low, (b.least r other before h).1)
      | inr at ↦ omega (arith, same_rank {b = other} is (rw (← at) h))
    ],
  );
}

pub kept : (heads : List (Option ℕ)) {s best lowest : ℕ} → Best heads s best lowest
    → ((rank : ℕ) → get_or heads s None ≡ Some rank → (best < length heads) × (lowest ≤ rank)) → Best heads (s + 1) best lowest
kept heads {s} b here = record {
  there = b.there;
  some = b.some;
  least = λ r rank k h. elim (before_or_at s k) [ inl before ↦ b.least r rank before h | inr at ↦ here rank (rw (← at) h) ];
}

pub higher : (heads : List (Option ℕ)) {s best lowest rank : ℕ} → Best heads s best lowest → get_or heads s None ≡ Some rank → lowest < rank
    → rank < 2 ^ 64 → Best heads (s + 1) best lowest
higher heads b is over fits = kept heads b (λ other e. (
  elim b.some [ inl inside ↦ inside | inr most ↦ absurd (omega (arith, most, over, fits)) ],
  omega (arith, over, same_rank is e),
))

least_key : {other : Key} {lowest : ℕ} (o : Option ℕ) → head_key o ≡ Some other → ((rank : ℕ) → o ≡ Some rank → lowest ≤ rank)
    → precedes other (rank_key lowest) ≡ false
least_key None h low = absurd (cc)
least_key {other} {lowest} (Some rank) h low = cc (rank_order rank lowest, not_less (low rank refl))

pub best_some : (heads : List (Option ℕ)) (n best lowest : ℕ) → Best heads n best lowest → length heads ≤ n → best < length heads
    → IsLeast (keys heads) best
best_some heads n best lowest b long inside = record {
  inside = omega (arith, inside, length-map heads head_key);
  key = rank_key lowest;
  there = cc (get_or-map head_key heads best None, b.there inside);
  least = λ r other k h. least_key (get_or heads r None) (cc (get_or-map head_key heads r None))
      (λ rank e. (b.least r rank (omega (arith, k, long, length-map heads head_key)) e).1);
}

pub has_all : (heads : List (Option ℕ)) (s : ℕ) → IsLeast (keys heads) s → ((r : ℕ) → r < length heads → r ≢ s → get_or heads r None ≡ None)
    → HasAll (keys heads) s
has_all heads s l none = record {
  inside = l.inside;
  others = λ r k other. cc (get_or-map head_key heads r None, none r (omega (arith, k, length-map heads head_key)) other);
}
