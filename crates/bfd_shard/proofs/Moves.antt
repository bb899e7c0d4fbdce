-- One session of a list changes.
use Rattle.bfd_shard.proofs.Common.{◌≡◌, ◌++◌, ◌+◌, add-one, ℕ, zero, suc, drop, take, List, [], ◌∷◌, map, set, refl, ap, Some, slice_get}
use Rattle.bfd_shard.proofs.Common.{unwrap_or, AllByRecursion, map-set, SessionConfig, Event, due, Running, configs_of, CanTake, ShardEvent}
use Rattle.bfd_shard.proofs.Common.{Own, Tick, CanHappen}
use Rattle.std.specs.List.{insert, remove}
use Rattle.bfd_session.specs.Reaching.{Stands}
use Rattle.bfd_wheel.proofs.Views.{map-insert, map-remove}
use Rattle.bfd_shard.specs.Inside.{MayCome}

-- the due ticks then change at its place
pub due_set : (ss : List Running) (k : ℕ) (s : Running) → map due (set ss k s) ≡ set (map due ss) k (due s)
due_set ss k s = map-set due ss k s

-- what holds of all holds still, if it holds of the new one
pub all_set : (P : Running → Type 0) (ss : List Running) (k : ℕ) (s : Running) → AllByRecursion P ss → P s → AllByRecursion P (set ss k s)
all_set P [] k s all one = tt
all_set P (x ∷ ss) zero s all one = (one, all.1)
all_set P (x ∷ ss) (suc k) s all one = (all.0, all_set P ss k s all.1 one)

-- what holds of all holds with one among them of which it holds
pub all_in : (P : Running → Type 0) (ss : List Running) (k : ℕ) (s : Running) → AllByRecursion P ss → P s
    → AllByRecursion P (take k ss ++ s ∷ drop k ss)
all_in P [] zero s all one = (one, tt)
all_in P [] (suc k) s all one = (one, tt)
all_in P (x ∷ ss) zero s all one = (one, all)
all_in P (x ∷ ss) (suc k) s all one = (all.0, all_in P ss k s all.1 one)

all_but : (P : Running → Type 0) (ss : List Running) (k : ℕ) → AllByRecursion P ss → AllByRecursion P (take k ss ++ drop (suc k) ss)
all_but P [] zero all = tt
all_but P [] (suc k) all = tt
all_but P (x ∷ ss) zero all = all.1
all_but P (x ∷ ss) (suc k) all = (all.0, all_but P ss k all.1)

-- and without one of them
pub all_out : (P : Running → Type 0) (ss : List Running) (k : ℕ) → AllByRecursion P ss → AllByRecursion P (take k ss ++ drop (k + 1) ss)
all_out P ss k all = rw add-one (all_but P ss k all)

-- the due ticks with one among them, and without one of them
pub dues_in : (ss : List Running) (k : ℕ) (s : Running) → map due (take k ss ++ s ∷ drop k ss) ≡ insert (map due ss) k (due s)
dues_in ss k s = map-insert due ss k s

pub dues_out : (ss : List Running) (k : ℕ) → map due (take k ss ++ drop (k + 1) ss) ≡ remove (map due ss) k
dues_out ss k = rw add-one (map-remove due ss k)

-- the session of a configuration stands at its place
pub stands_of : (ss : List Running) (k : ℕ) {c : SessionConfig} (event : Event) → slice_get (configs_of ss) k ≡ Some c → CanTake c event
    → Stands ss k event
stands_of [] zero event e t = cc
stands_of [] (suc k) event e t = cc
stands_of (x ∷ ss) zero {c} event e t = record { session = x; there = refl; takes = rw (ap (λ o. unwrap_or o c) e) t }
stands_of (x ∷ ss) (suc k) event e t =
    let r = stands_of ss k event e t in record { session = r.session; there = r.there; takes = r.takes }

pub may_come : (ss : List Running) (e : ShardEvent) → CanHappen (configs_of ss) e → MayCome ss e
may_come ss (Own k m event) can = stands_of ss k event can.there can.takes
may_come ss (Tick t) can = tt
