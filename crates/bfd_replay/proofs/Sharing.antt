-- A shard's sessions after an event of the whole table.
use Rattle.bfd_replay.proofs.ReportCommon.{◌≡◌, ◌≢◌, ◌<◌, ◌/◌, ◌%◌, max, ℕ, List, refl, Option, None, Some, slice_get, Event, stepped}
use Rattle.bfd_replay.proofs.ReportCommon.{ticked, Running, Own, Tick, share, moved, own_moved, outcome_of, not_there, share_map}
use Rattle.bfd_replay.proofs.ReportCommon.{share_other, share_set, there, div-add-mod'}

-- an own event of the table is the same event of its shard

own_here_by : {n : ℕ} (k m last : ℕ) (event : Event) (ss : List Running) (o : Option Running) → 0 < n
    → share n (k % n) (own_moved o k m last event ss) ≡ own_moved o (k / n) m last event (share n (k % n) ss)
own_here_by k m last event ss None some = refl
own_here_by {n} k m last event ss (Some x) some = cc (div-add-mod' k n, share_set n (k % n) (k / n) ss (stepped m last event x) some)

pub own_here : {n : ℕ} (k m last : ℕ) (event : Event) (ss : List Running) → 0 < n
    → share n (k % n) (moved last (Own k m event) ss) ≡ moved last (Own (k / n) m event) (share n (k % n) ss)
unfolding moved
own_here {n} k m last event ss some = cc (own_here_by k m last event ss (slice_get ss k) some, there n k ss some)

pub own_gives : (n k m last : ℕ) (event : Event) (ss : List Running) → 0 < n
    → outcome_of last (Own (k / n) m event) (share n (k % n) ss) ≡ outcome_of last (Own k m event) ss
unfolding outcome_of
own_gives n k m last event ss some = cc (there n k ss some)

-- and no event of another shard

own_away_by : {n r : ℕ} (k m last : ℕ) (event : Event) (ss : List Running) (o : Option Running) → 0 < n → r < n → k % n ≢ r
    → share n r (own_moved o k m last event ss) ≡ share n r ss
own_away_by k m last event ss None some h other = refl
own_away_by {n} {r} k m last event ss (Some x) some h other =
    share_other n r k ss (stepped m last event x) some (λ p. not_there k n r p some h other)

pub own_away : (n r k m last : ℕ) (event : Event) (ss : List Running) → 0 < n → r < n → k % n ≢ r
    → share n r (moved last (Own k m event) ss) ≡ share n r ss
unfolding moved
own_away n r k m last event ss some h other = own_away_by k m last event ss (slice_get ss k) some h other

-- a tick is an event of every shard
pub tick_here : (n r t last : ℕ) (ss : List Running) → share n r (moved last (Tick t) ss) ≡ moved last (Tick t) (share n r ss)
unfolding moved
tick_here n r t last ss = share_map (ticked (max last t)) n r ss
