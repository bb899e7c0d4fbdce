-- Shards that are taken out one by one.
use Rattle.bfd_engine.proofs.Common.{◌≡◌, ◌≢◌, ◌<◌, ◌≤◌, ◌+◌, ◌*◌, ◌++◌, ◌∷◌, [], ℕ, zero, suc, false, List, length, length-append, set}
use Rattle.bfd_engine.proofs.Common.{Some, slice_get, refl, ap, sym, ◌∙◌, subst, arith, slice_get_within, same_Some, dite, ℕ_discrete}
use Rattle.bfd_engine.proofs.Common.{calls, has, TableId, AllJoined, configs_of, Shard, Base, by, configs_in, limit_in, Shards, Held, Knows}
use Rattle.bfd_engine.proofs.Common.{IsOf, AllThere, base_at, met_word_of, taken_of, made_of, kept_of, EachJoined, IsClosed, AllKept}
use Rattle.bfd_engine.proofs.Places.{K, set_else, last_here, front_here}

next_here : {X : Type 0} (xs ys : List X) (x : X) (i : ℕ) → i ≡ length xs → slice_get (xs ++ x ∷ ys) i ≡ Some x
next_here [] ys x zero e = refl
next_here (z ∷ zs) ys x (suc i) e = next_here zs ys x i (omega arith)
next_here xs ys x i e = absurd (omega arith)

pub grown : {X : Type 0} (xs more : List X) (x : X) → more ≡ xs ++ x ∷ [] → length more ≡ length xs + 1
grown xs more x is = omega (arith, ap length is, length-append xs (x ∷ []))

pub none_left : {X : Type 0} (xs rest : List X) {whole : List X} → xs ++ rest ≡ whole → length rest ≡ 0 → length xs ≡ length whole
none_left xs rest is none = omega (arith, ap length is, length-append xs rest, none)

-- the passes from a place on are as they were
pub record LeftFrom (at : ℕ) (before after : List Held) : Type 0 where
  pub left : (k : ℕ) → at ≤ k → slice_get after k ≡ slice_get before k

pub left_more : (at at2 : ℕ) (before after : List Held) (h : Held) → at2 ≡ at + 1 → LeftFrom at before after
    → LeftFrom at2 before (set after at h)
left_more at at2 before after h is l = record {
  left = λ k le. set_else after at k h (λ same. omega (arith, same, le, is))
      ∙ l.left k (omega (arith, le, is));
}

-- before the first
pub left_whole : (at : ℕ) (passes : List Held) → LeftFrom at passes passes
left_whole at passes = record { left = λ k le. refl }

-- the pass at the next place is the one that was handed in, and of the next lock
pub record IsNext (engine : Shards) (before after : List Held) (lock : TableId) (at : ℕ) : Type 0 where
  pub pass : K
  pub before_is : slice_get before at ≡ Some (Some pass)
  pub after_is : slice_get after at ≡ Some (Some pass)
  pub lock_is : pass.0 ≡ lock
  pub base_is : pass.1.base ≡ Some (base_at engine at)
  pub within_is : at < length engine.locks

pub next_pass : (engine : Shards) (yielded rest : List TableId) (lock : TableId) (before after : List Held) (at : ℕ)
    → yielded ++ lock ∷ rest ≡ engine.locks
    → at ≡ length yielded → IsOf engine before → AllThere before → LeftFrom at before after → IsNext engine before after lock at
next_pass engine yielded rest lock before after at whole long of all l =
    let here : slice_get engine.locks at ≡ Some lock = cc (next_here yielded rest lock at long) in
    let inside = slice_get_within engine.locks at lock here in
    let t = all.at at (let e = of.long in omega (arith, inside, e)) in record {
      pass = t.0;
      before_is = t.1;
      after_is = l.left at (omega arith) ∙ t.1;
      lock_is = same_Some t.0.0 lock (cc (of.lock at t.0 t.1));
      base_is = of.base_is at t.0 t.1;
      within_is = inside;
    }

-- the pass that was lifted is that one
pub lifted : (engine : Shards) (before after : List Held) (lock : TableId) (at : ℕ) (p : K) → IsNext engine before after lock at
    → slice_get after at ≡ Some (Some p)
    → IsNext engine before after lock at × (slice_get before at ≡ Some (Some p)) × (p.0 ≡ lock) × (p.1.base ≡ Some (base_at engine at))
lifted engine before after lock at p n e = (n, cc, cc, cc)

-- all that this pass made was joined
pub joined_here : (engine : Shards) (k : Knows) (at : ℕ) (p : K) → slice_get k.1 at ≡ Some (Some p) → at < length engine.locks
    → EachJoined engine k → AllJoined p.1
joined_here engine k at p here inside all n h = rw (← ap kept_of here) (all at n inside (ap (has n) (ap made_of here) ∙ h))

-- what a lock says when it is closed
pub record IsEnd (p : K) (shard : Shard) : Type 0 where
  pub notes : shard.journal ≡ p.1.seen
  pub base : (let b : Base = record { configs = configs_of shard.sessions; limit = shard.limit } in Some b) ≡ p.1.base
  pub word : p.1.word ≤ 2 * p.1.taken
  pub kept : AllKept by p.1.joined shard.journal
  pub unmade : (n : ℕ) → n ≢ 0 → has n p.1.made ≡ false → calls by n shard.journal ≡ []

closed_here : (engine : Shards) (k : Knows) (at : ℕ) (p : K) (shard : Shard) → slice_get k.1 at ≡ Some (Some p)
    → p.1.base ≡ Some (base_at engine at) → IsEnd p shard
    → IsClosed engine k at shard
closed_here engine k at p shard here base e = record {
  journal = cc;
  configs = ap configs_in (e.base ∙ base);
  limit = ap limit_in (e.base ∙ base);
  word = omega (arith, ap met_word_of here, ap taken_of here, e.word);
  kept = rw (ap kept_of here) e.kept;
  unmade = λ n other h. e.unmade n other (cc);
}

-- the shards that were taken out
pub record AreEnded (engine : Shards) (k : Knows) (shards : List Shard) : Type 0 where
  pub each : (number : ℕ) (shard : Shard) → slice_get shards number ≡ Some shard → IsClosed engine k number shard

nobody : (k : ℕ) {shard : Shard} → slice_get [] k ≡ Some shard → ⊥
nobody zero e = cc
nobody (suc k) e = cc

pub none_ended : (engine : Shards) (k : Knows) {shards : List Shard} → shards ≡ [] → AreEnded engine k shards
none_ended engine k none = rw none (record { each = λ number shard e. absurd (nobody number e) })

pub ended_more : (engine : Shards) (k : Knows) (at : ℕ) (p : K) (shards more : List Shard) (shard : Shard)
    → slice_get k.1 at ≡ Some (Some p) → p.1.base ≡ Some (base_at engine at)
    → IsEnd p shard → at ≡ length shards → more ≡ shards ++ shard ∷ [] → AreEnded engine k shards → AreEnded engine k more
ended_more engine k at p shards more shard here base end long is all = record {
  each = λ number x e. (
      dite (ℕ_discrete number at) (λ same. (
      subst (λ (y : ℕ × Shard). IsClosed engine k y.0 y.1)
      (λ i. (sym same i, (same_Some shard x (cc (last_here shards shard number (cc)))) i)) (closed_here engine k at p shard here base end)))
      (λ other. all.each number x
      (cc (front_here shards shard number (omega (
        arith,
        slice_get_within (shards ++ shard ∷ []) number x cc,
        length-append shards (shard ∷ []),
        other,
        long,
      ))))));
}
