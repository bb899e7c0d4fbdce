-- A history that is copied from a place on.
use Rattle.bfd_engine.proofs.Common.{◌≡◌, ◌≤◌, ◌++◌, ◌∷◌, [], ℕ, zero, suc, List, length, drop, append-nil, set, slice_get, Some, Result}
use Rattle.bfd_engine.proofs.Common.{Ok, Err, IfErr, refl, AllByRecursion, SessionConfig, Entry, events_of, CanHappen, IsHistory, TurnFault}
use Rattle.bfd_engine.proofs.Common.{HasLooked, IsSame, OfShard, Knows, met_word, fault_of, Memory, Full, Spent, AreGiven, HasRead}
use Rattle.bfd_engine.proofs.Common.{IsHistoryUnread, IsUnreadAt}
use Rattle.bfd_engine.proofs.Places.{K}
use Rattle.bfd_engine.proofs.Turning.{turned}

-- what is copied, and what is left, are all from the first place on
pub record IsPart (from at : ℕ) (whole copied : List Entry) : Type 0 where
  pub within_is : at ≤ length whole
  pub all : copied ++ drop at whole ≡ drop from whole

all_from : (configs : List SessionConfig) (n : ℕ) (xs : List Entry) → AllByRecursion (CanHappen configs) (events_of xs)
    → AreGiven configs (drop n xs)
all_from configs zero [] h = tt
all_from configs (suc n) [] h = tt
all_from configs zero (x ∷ xs) h = (h.0, all_from configs zero xs h.1)
all_from configs (suc n) (x ∷ xs) h = all_from configs n xs h.1

pub given_from : {configs configs2 : List SessionConfig} (n : ℕ) (xs : List Entry) {ys : List Entry} → IsHistory configs (events_of xs)
    → configs ≡ configs2 → ys ≡ drop n xs
    → AreGiven configs2 ys
given_from {configs} n xs h same is = rw is (rw (← same) (all_from configs n xs h))

pub has_read : (k : Knows) {l : Knows} (shard : ℕ) {p : K} (q : K) → slice_get k.1 shard ≡ Some (Some p)
    → l ≡ (k.0, set k.1 shard (Some q), k.2) → p.1.number ≡ k.0
    → IsSame p.1 q.1 → HasLooked p.1 q.1 → HasRead k l shard
has_read k shard {p} q here is num same looked = record {
  between = looked.between;
  turned = turned k shard q looked.between [] here is num same (cc (append-nil (p.1.seen ++ looked.between))) looked.others;
}

-- why it wasn't read, stated of the shard
pub unread_at : {X : Type 0} (r : Result X TurnFault) (shard : ℕ) (l : Knows) (q : OfShard) → met_word l shard ≡ q.word
    → IfErr r (λ fault. IsHistoryUnread fault q)
    → IfErr r (λ fault. IsUnreadAt (fault_of shard fault) shard l)
unread_at (Ok x) shard l q met h = tt
unread_at (Err Memory) shard l q met h = tt
unread_at (Err (Full n)) shard l q met h = h
unread_at (Err (Spent word)) shard l q met h = (refl, h.0, cc)
