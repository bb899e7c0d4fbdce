-- What a turn adds to what a pass knows.
use Rattle.bfd_engine.proofs.Common.{◌≡◌, ◌≢◌, ◌≤◌, ◌+◌, ◌++◌, ◌∷◌, [], ◌==◌, ℕ, List, append_assoc, append-nil, refl, ap, sym, ◌∙◌, arith}
use Rattle.bfd_engine.proofs.Common.{dite, ℕ_discrete, eq-eqb, Begins, calls, Entry, ShardEvent, by, entry_of, Knows, seen_at, met_word}
use Rattle.bfd_engine.proofs.Common.{taken_at, mine, Turned, filter-append}

-- what was seen of each shard begins what is seen of it after
pub grows : (k l : Knows) (shard r : ℕ) (between new : List Entry) → Turned k l shard between new → Begins (seen_at k r) (seen_at l r)
grows k l shard r between new t = dite (ℕ_discrete r shard)
    (λ same. rw same (between ++ new, t.here ∙ append_assoc (seen_at k shard) between new))
    (λ other. ([], t.seen_elsewhere r other ∙ sym (append-nil (seen_at k r))))

-- the caller's own calls are those that it had, and those of the turn
pub gains : (k l : Knows) (shard : ℕ) (between new : List Entry) → Turned k l shard between new
    → mine l shard ≡ mine k shard ++ calls by k.0 new
gains k l shard between new t = ap (λ n. calls by n (seen_at l shard)) t.number ∙ (ap (calls by k.0) t.here
    ∙ (filter-append (λ e. by e == k.0) (seen_at k shard ++ between) new ∙ ap (λ xs. xs ++ calls by k.0 new)
    (filter-append (λ e. by e == k.0) (seen_at k shard) between
    ∙ (ap (λ xs. calls by k.0 (seen_at k shard) ++ xs) t.others ∙ append-nil (calls by k.0 (seen_at k shard))))))

pub mine_elsewhere : (k l : Knows) (shard r : ℕ) (between new : List Entry) → Turned k l shard between new → r ≢ shard → mine l r ≡ mine k r
mine_elsewhere k l shard r between new t other = cc (t.seen_elsewhere r other)

-- a call of this caller is one of its own
pub own_call : (n : ℕ) (event : ShardEvent) → calls by n (entry_of n event ∷ []) ≡ entry_of n event ∷ []
own_call n event = rw (eq-eqb n n refl) refl

pub words : (k l : Knows) (shard r : ℕ) (between new : List Entry) → Turned k l shard between new → met_word k r ≤ met_word l r
words k l shard r between new t = dite (ℕ_discrete r shard) (λ same. rw same t.word) (λ other. (omega (arith, t.word_elsewhere r other)))

pub takens : (k l : Knows) (shard r : ℕ) (between new : List Entry) → Turned k l shard between new → taken_at l r ≤ taken_at k r + 1
takens k l shard r between new t = dite (ℕ_discrete r shard) (λ same. rw same t.taken) (λ other. (omega (arith, t.taken_elsewhere r other)))
