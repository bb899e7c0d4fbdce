-- What one turn adds to a caller's calls.
use Rattle.bfd_serve.proofs.Common.{◌≡◌, ◌≢◌, ◌+◌, ◌≤◌, ◌==◌, true, false, ◌++◌, length, refl, ap₂, sym, ◌∙◌, append_assoc, append-nil}
use Rattle.bfd_serve.proofs.Common.{arith, dite, ℕ_discrete, filter-append, nat_tests, Entry, ShardEvent, Begins, calls, by, entry_of}
use Rattle.bfd_serve.proofs.Common.{Knows, seen_at, met_word, taken_at, mine, Turned, Call, entries, ℕ, List, [], ◌∷◌}

pub begins_self : (h : List Entry) → Begins h h
begins_self h = ([], sym (append-nil h))

pub begins_trans : (a : List Entry) {b c : List Entry} → Begins a b → Begins b c → Begins a c
begins_trans a p q = (p.0 ++ q.0, cc (append_assoc a p.0 q.0))

pub calls_append : (n : ℕ) (xs ys : List Entry) → calls by n (xs ++ ys) ≡ calls by n xs ++ calls by n ys
calls_append n xs ys = filter-append (λ x. by x == n) xs ys

module _ (k l : Knows) (shard : ℕ) (between : List Entry) where
  mine_here : {new : List Entry} → Turned k l shard between new → mine l shard ≡ mine k shard ++ calls by k.0 new
  mine_here {new} t =
      cc (
        ap₂ (λ n h. calls by n h) t.number t.here,
        calls_append k.0 (seen_at k shard ++ between) new,
        calls_append k.0 (seen_at k shard) between,
        append-nil (mine k shard),
      )

  mine_else : {r : ℕ} {new : List Entry} → Turned k l shard between new → r ≢ shard → mine l r ≡ mine k r
  mine_else {r} t other = ap₂ (λ n h. calls by n h) t.number (t.seen_elsewhere r other)

  pub grows : {new : List Entry} → Turned k l shard between new → (r : ℕ) → Begins (seen_at k r) (seen_at l r)
  grows {new} t r = dite (ℕ_discrete r shard) (λ is. rw is (between ++ new, t.here ∙ append_assoc (seen_at k shard) between new))
      (λ other. rw (t.seen_elsewhere r other) (begins_self (seen_at k r)))

  pub words : {new : List Entry} → Turned k l shard between new → (r : ℕ) → met_word k r ≤ met_word l r
  words t r = dite (ℕ_discrete r shard) (λ is. rw is t.word) (λ other. omega arith)

  -- a call adds its entry on its shard, and nothing elsewhere
  pub mine_call : {event : ShardEvent} → Turned k l shard between (entry_of k.0 event ∷ []) → (r : ℕ)
      → mine l r ≡ mine k r ++ entries k.0 r ((shard, event) ∷ [])
  mine_call {event} t r = let c : Call = (shard, event) in dite (ℕ_discrete r shard) (λ is.
      let one : calls by k.0 (entry_of k.0 event ∷ []) ≡ entry_of k.0 event ∷ [] =
      (let b : (k.0 == k.0) ≡ true = grind (arith, nat_tests) in rw b refl) in
      let two : entries k.0 shard (c ∷ []) ≡ entry_of k.0 event ∷ [] =
      (let b : (shard == shard) ≡ true = grind (arith, nat_tests) in rw b refl) in
      rw is (cc (mine_here t))) (λ other.
      let none : entries k.0 r (c ∷ []) ≡ [] = (let b : (shard == r) ≡ false = grind (arith, nat_tests, other) in rw b refl) in
      cc (mine_else t other, append-nil (mine k r)))

  pub mine_fault : Turned k l shard between [] → (r : ℕ) → mine l r ≡ mine k r
  mine_fault t r = dite (ℕ_discrete r shard) (λ is. rw is (mine_here t ∙ append-nil (mine k shard))) (λ other. mine_else t other)

  -- a turn counts as one call
  pub taken_call : (event : ShardEvent) {new : List Entry} → Turned k l shard between new → (r : ℕ)
      → taken_at l r ≤ taken_at k r + length (entries k.0 r ((shard, event) ∷ []))
  taken_call event t r = let c : Call = (shard, event) in dite (ℕ_discrete r shard)
      (λ is. let one : length (entries k.0 shard (c ∷ [])) ≡ 1 =
      (let b : (shard == shard) ≡ true = grind (arith, nat_tests) in rw b refl) in
      rw is (omega (arith, t.taken))) (λ other. omega (arith, t.taken_elsewhere r other))
