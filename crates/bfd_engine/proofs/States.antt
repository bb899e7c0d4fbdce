-- Shards that were made, and those of them that are taken into an engine.
use Rattle.bfd_engine.proofs.Common.{◌≡◌, refl, ℕ, zero, suc, ◌+◌, ◌<◌, List, [], ◌∷◌, ◌++◌, AllByRecursion, dite, ℕ_discrete, get_or_push}
use Rattle.bfd_engine.proofs.Common.{get_or_append_left, length, map, length-map, get_or, slice_get, Some, Result, Ok, IfOk, ap, sym, ◌∙◌}
use Rattle.bfd_engine.proofs.Common.{arith, SessionConfig, configs_of, share, started, started_configs, Shard, AreShares, IsNewState}
use Rattle.bfd_engine.proofs.Common.{AreNewStates}
use Rattle.bfd_engine.specs.Opening.{MayLock}

-- where all were made, they are as many, and what is true of each that was is true of each
pub all_long : {A E : Type 0} {n : ℕ} (all : List A) {made : List (Result A E)} → made ≡ map Ok all → length made ≡ n → length all ≡ n
all_long all is long = sym (length-map all Ok) ∙ (ap length (sym is) ∙ long)

at : {A : Type 0} (E : Type 0) (P : A → Type 0) (all : List A) (i : ℕ) (d : A)
    → IfOk (let made : List (Result A E) = map Ok all in get_or made i (Ok d)) P → P (get_or all i d)
at E P [] i d h = h
at E P (s ∷ all) zero d h = h
at E P (s ∷ all) (suc i) d h = at E P all i d h

pub made_at : {A E : Type 0} (P : A → Type 0) (all : List A) {made : List (Result A E)} (i : ℕ) (d : A) → made ≡ map Ok all
    → IfOk (get_or made i (Ok d)) P → P (get_or all i d)
made_at {E} P all i d is h = at E P all i d (rw (← is) h)

moved : (c r : ℕ) → c + 1 + r ≡ c + suc r
moved c r = omega arith

from_first : (r : ℕ) → 0 + r ≡ r
from_first r = omega arith

abbrev pub of : Shard → List SessionConfig
of state = configs_of state.sessions

pub made_of : (cs : List SessionConfig) (state : Shard) → state.sessions ≡ map started cs → of state ≡ cs
made_of cs state e = cc (started_configs cs)

part_at : (states : List Shard) (r : ℕ) (cs : List SessionConfig) → r < length states → ((d : Shard) → IsNewState cs (get_or states r d))
    → slice_get (map of states) r ≡ Some cs
part_at [] r cs h new = absurd (omega (arith, h))
part_at (s ∷ states) zero cs h new = ap Some (made_of cs s (new s).sessions)
part_at (s ∷ states) (suc r) cs h new = part_at states r cs (omega (arith, h)) new

-- where each number of a list is its place, so it is with one more number
pub number_more : (numbers : List ℕ) (n : ℕ) → length numbers ≡ n → ((k d : ℕ) → k < n → get_or numbers k d ≡ k) → (k d : ℕ) → k < n + 1
    → get_or (numbers ++ n ∷ []) k d ≡ k
number_more numbers n long each k d h = dite (ℕ_discrete k n)
    (λ same. rw (same, get_or_push numbers n d n long) refl)
    (λ other. rw (get_or_append_left numbers (n ∷ []) d k (omega (arith, long, h, other))) (each k d (omega (arith, h, other))))

-- one more shard is made
pub new_more : (n : ℕ) (configs : List SessionConfig) (states : List Shard) (state : Shard) (k : ℕ) → length states ≡ k
    → ((r : ℕ) (d : Shard) → r < k → IsNewState (share n r configs) (get_or states r d)) → IsNewState (share n k configs) state
    → (r : ℕ) (d : Shard) → r < k + 1 → IsNewState (share n r configs) (get_or (states ++ state ∷ []) r d)
new_more n configs states state k long each one r d h = dite (ℕ_discrete r k)
    (λ same. rw (same, get_or_push states state d k long) one)
    (λ other. rw (get_or_append_left states (state ∷ []) d r (omega (arith, long, h, other))) (each r d (omega (arith, h, other))))

locks_each : (limit n c : ℕ) (configs : List SessionConfig) (states : List Shard) → ((r : ℕ) (d : Shard) → r < length states
    → IsNewState (share n (c + r) configs) (get_or states r d)) → AllByRecursion (MayLock limit) states
locks_each limit n c configs [] new = tt
locks_each limit n c configs (s ∷ states) new =
    let one = new 0 s (omega arith) in (
      (one.journal, omega (arith, one.limit)),
      locks_each limit n (c + 1) configs states
          (λ r d h. rw (moved c r) (new (suc r) d (omega (arith, h)))),
    )

-- new shards may be put behind locks
pub may_lock : (limit : ℕ) {n : ℕ} {configs : List SessionConfig} (states : List Shard) → AreNewStates n configs states
    → AllByRecursion (MayLock limit) states
may_lock limit {n} {configs} states new = locks_each limit n 0 configs states
    (λ r d h. rw (from_first r) (new.each r d (omega (arith, new.long, h))))

-- new shards are of the shares
pub shares_of_new : {n : ℕ} {configs : List SessionConfig} (states : List Shard) → AreNewStates n configs states
    → AreShares n configs (map of states)
shares_of_new {n} {configs} states new = record {
  long = length-map states of ∙ new.long;
  each = λ r h. part_at states r (share n r configs) (omega (arith, new.long, h)) (λ d. new.each r d h);
}
