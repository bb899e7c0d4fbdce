-- A shard at the start.
use Rattle.bfd_shard.proofs.Common.{◌≡◌, ◌<◌, ◌≤◌, ◌+◌, ◌++◌, subst, ℕ, zero, suc, List, [], ◌∷◌, length, map, take, drop, get_or, set}
use Rattle.bfd_shard.proofs.Common.{refl, sym, ap, ◌∙◌, add-one, arith, Option, AllByRecursion, length-map, map-append, SessionConfig, due}
use Rattle.bfd_shard.proofs.Common.{Running, configs_of, IsSound, started, Entry, last_from, run_from, runs_from, shard_of, IsShard}
use Rattle.bfd_session.proofs.Starting.{started_configs}
use Rattle.bfd_shard.proofs.OnTime.{none_yet}

-- one more of a list stands in for the other's
stands_in : {A B : Type 0} (f : A → B) (xs : List A) (ys : List B) (i : ℕ) (d : A) → i < length xs → length ys ≡ length xs
    → set (map f (take i xs) ++ drop i ys) i (f (get_or xs i d)) ≡ map f (take (suc i) xs) ++ drop (suc i) ys
stands_in f [] ys i d h e = absurd (omega arith)
stands_in f (x ∷ xs) [] i d h e = absurd (omega arith)
stands_in f (x ∷ xs) (y ∷ ys) zero d h e = refl
stands_in f (x ∷ xs) (y ∷ ys) (suc i) d h e = cc (stands_in f xs ys i d (omega arith) (omega arith))

-- one more due tick is kept
pub due_more : (xs : List Running) (ys : List (Option ℕ)) {zs : List (Option ℕ)} {i : ℕ} (d : Running) → i < length xs
    → length ys ≡ length xs
    → zs ≡ map due (take i xs) ++ drop i ys → set zs i (due (get_or xs i d)) ≡ map due (take (i + 1) xs) ++ drop (i + 1) ys
due_more xs ys {i} d h e is = ap (λ ws. set ws i (due (get_or xs i d))) is ∙ rw add-one (stands_in due xs ys i d h e)

-- one more sound session
pub sound_more : (ss ss2 : List Running) (s : Running) → AllByRecursion IsSound ss → IsSound s → ss2 ≡ ss ++ s ∷ []
    → AllByRecursion IsSound ss2
sound_more ss ss2 s sound one e = subst (λ (xs : List Running). AllByRecursion IsSound xs) (sym e) (added ss sound)
  where
    added : (xs : List Running) → AllByRecursion IsSound xs → AllByRecursion IsSound (xs ++ s ∷ [])
    added [] h = (one, tt)
    added (x ∷ xs) h = (h.0, added xs h.1)

-- one more session of the start
pub start_more : (cs : List SessionConfig) {c : SessionConfig} {ss ss2 : List Running} {s : Running} → ss ≡ map started cs → s ≡ started c
    → ss2 ≡ ss ++ s ∷ [] → ss2 ≡ map started (cs ++ c ∷ [])
start_more cs {c} so_far is e = cc (map-append started cs (c ∷ []))

-- with no event yet, the sessions stand at the start
runs_none : (p : ℕ) (cs : List SessionConfig) → runs_from p [] cs ≡ map started cs
unfolding runs_from run_from
runs_none p [] = refl
runs_none p (c ∷ cs) = cc (runs_none (p + 1) cs)

shard_at : (cs : List SessionConfig) (limit room : ℕ) → length cs ≤ 65536 → AllByRecursion IsSound (map started cs)
    → IsShard (shard_of (map started cs) 0 [] limit room)
unfolding last_from
shard_at cs limit room few sound = record {
  few = omega (arith, length-map cs started);
  full = omega arith;
  history = tt;
  clock = refl;
  early = omega arith;
  whole = sym (cc (started_configs cs, runs_none 0 cs));
  sound = sound;
  timely = none_yet (configs_of (map started cs));
}

-- a shard at the start
pub shard_made : (cs : List SessionConfig) {ss : List Running} {last : ℕ} (limit room : ℕ) {journal : List Entry} → length cs ≤ 65536
    → ss ≡ map started cs → last ≡ 0 → AllByRecursion IsSound ss → journal ≡ [] → IsShard (shard_of ss last journal limit room)
shard_made cs limit room few made first sound empty = rw first (rw empty (rw made (shard_at cs limit room few (rw (← made) sound))))

-- sessions that stand at the start do so with their own configurations
pub starts_of : (cs : List SessionConfig) {ss : List Running} → ss ≡ map started cs → ss ≡ map started (configs_of ss)
starts_of cs e = cc (started_configs cs)
