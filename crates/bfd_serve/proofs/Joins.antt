-- One more pass is joined.
use Rattle.bfd_serve.proofs.Common.{◌≡◌, ◌<◌, ◌≤◌, ◌++◌, length, get_or, Some, refl, sym, append_assoc, append-nil, le_refl, arith}
use Rattle.bfd_serve.proofs.Common.{All-push, All-pop, All-nil, sum_by-append, Begins, begins_itself, begins_through, longer_begins, Shards}
use Rattle.bfd_serve.proofs.Common.{Knows, IsOf, AllThere, seen_at, met_word, taken_at, kept_at, mine, calls_kept, AreJoined, ℕ, List, []}
use Rattle.bfd_serve.proofs.Common.{◌∷◌, Joined}

calls_kept-append : (s : ℕ) (xs ys : List Knows) → calls_kept s (xs ++ ys) ≡ calls_kept s xs ++ calls_kept s ys
calls_kept-append s [] ys = refl
calls_kept-append s (x ∷ xs) ys = cc (calls_kept-append s xs ys)

joined_none : (k : Knows) (s : ℕ) → AreJoined k [] k s
joined_none k s = record {
  own = refl;
  kept = sym (append-nil (kept_at k s));
  first = begins_itself (seen_at k s);
  each = All-nil (λ o. Begins (seen_at o s) (seen_at k s));
  least = λ h p a. p;
  word = le_refl (met_word k s);
  words = All-nil (λ o. met_word o s ≤ met_word k s);
  taken = omega arith;
  made = refl;
}

joined_one : {k l m o : Knows} {os : List Knows} {s : ℕ} → AreJoined k os l s → Joined l o m s → AreJoined k (os ++ o ∷ []) m s
joined_one {k} {l} {m} {o} {os} {s} j t = record {
  own = cc;
  kept = cc (append_assoc (kept_at k s) (calls_kept s os) ((o.0, mine o s) ∷ []), calls_kept-append s os (o ∷ []));
  first = begins_through (seen_at k s) _ _ j.first t.first;
  each = All-push (λ x. Begins (seen_at x s) (seen_at m s)) os o
      (λ i d h. begins_through (seen_at (get_or os i d) s) _ _ (j.each i d h) t.first) t.other;
  least = λ h p a. (let q = All-pop (λ x. Begins (seen_at x s) h) (os ++ o ∷ []) os (Some o) refl a in
      rw t.seen (longer_begins (seen_at l s) (seen_at o s) h (j.least h p q.0) q.1));
  word = omega (arith, t.word, j.word);
  words = All-push (λ x. met_word x s ≤ met_word m s) os o (λ i d h. (omega (arith, j.words i d h, t.word))) t.word_other;
  taken = (let d = sum_by-append (λ x. taken_at x s) os (o ∷ []) in omega (arith, t.taken, j.taken));
  made = cc;
}

-- so far
pub record AreTakenIn (engine : Shards) (k : Knows) (os : List Knows) (l : Knows) : Type 0 where
  pub of : IsOf engine l.1
  pub there : AllThere l.1
  pub number : l.0 ≡ 0
  pub joined : (s : ℕ) → s < length engine.locks → AreJoined k os l s

pub taken_in_none : {engine : Shards} (k : Knows) → IsOf engine k.1 → AllThere k.1 → k.0 ≡ 0 → AreTakenIn engine k [] k
taken_in_none k of there number = record { of = of; there = there; number = number; joined = λ s h. joined_none k s }

pub taken_in_more : {engine : Shards} {k l m o : Knows} {os : List Knows} → AreTakenIn engine k os l → IsOf engine m.1 → AllThere m.1
    → m.0 ≡ 0
    → ((s : ℕ) → s < length engine.locks → Joined l o m s) → AreTakenIn engine k (os ++ o ∷ []) m
taken_in_more t of there number joined = record {
  of = of;
  there = there;
  number = number;
  joined = λ s h. joined_one (t.joined s h) (joined s h);
}
