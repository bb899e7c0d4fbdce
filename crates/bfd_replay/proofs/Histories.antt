-- A shard's sessions after its history, and what it reports of one more event.
use Rattle.bfd_replay.proofs.ReportCommon.{◌≡◌, suc, ◌≢◌, ◌⊎◌, inl, inr, ◌<◌, ◌+◌, ◌/◌, ◌%◌, ◌++◌, max, ℕ, List, [], ◌∷◌, length, map}
use Rattle.bfd_replay.proofs.ReportCommon.{get_or, refl, ap, ◌∙◌, append_assoc, append-nil, arith, Option, None, Some, ext_get_or}
use Rattle.bfd_replay.proofs.ReportCommon.{cons_option, filter_map, get_or-map, length-map, cases_eq, eq-eqb, ne_eqb, Event, Outcome}
use Rattle.bfd_replay.proofs.ReportCommon.{Running, ShardEvent, Own, Tick, event_in, history_of, share, later, last_from, last_tick}
use Rattle.bfd_replay.proofs.ReportCommon.{run_from, moved, outcome_of, runs, event_pieces, whole_piece, Happening, Apart, Among}
use Rattle.bfd_replay.proofs.ReportCommon.{session_event, in_shard, numbered, queue, shard_pieces, apart_pieces, moved_at, moved_long}
use Rattle.bfd_replay.proofs.ReportCommon.{runs_at}
use Rattle.bfd_replay.proofs.ReportCommon.{runs_long, Numbered, share_map}
use Rattle.bfd_session.specs.declared.event.SessionConfig.{SessionConfig}
use Rattle.bfd_session.specs.Step.{started}
use Rattle.bfd_shard.proofs.Ticks.{nobody}
use Rattle.bfd_replay.proofs.Sharing.{own_here, own_away, tick_here}

-- sessions after events, from these sessions and this last tick on
abbrev pub left_by : ℕ → List ShardEvent → List Running → List Running
left_by last [] ss = ss
left_by last (e ∷ es) ss = left_by (later last e) es (moved last e ss)

long_left : (last : ℕ) (es : List ShardEvent) (ss : List Running) → length (left_by last es ss) ≡ length ss
long_left last [] ss = refl
long_left last (e ∷ es) ss = long_left (later last e) es (moved last e ss) ∙ moved_long last e ss

left_at : (last : ℕ) (es : List ShardEvent) (ss : List Running) (k : ℕ) (d : Running) → k < length ss
    → get_or (left_by last es ss) k d ≡ run_from k last es (get_or ss k d)
unfolding run_from
left_at last [] ss k d h = refl
left_at last (e ∷ es) ss k d h = cc (
  left_at (later last e) es (moved last e ss) k d (omega (arith, h, moved_long last e ss)),
  moved_at last e ss k d h,
)

-- from the start on they are the runs
pub left_runs : (es : List ShardEvent) (cs : List SessionConfig) → left_by 0 es (map started cs) ≡ runs es cs
left_runs es cs =
    let c : SessionConfig = nobody.config in
    let long = long_left 0 es (map started cs) ∙ length-map cs started in
    ext_get_or nobody (left_by 0 es (map started cs)) (runs es cs) (cc (runs_long 0 es cs))
    (λ k h. cc (
      left_at 0 es (map started cs) k nobody (omega (arith, h, long, length-map cs started)),
      get_or-map started cs k c nobody (omega (arith, h, long)),
      runs_at 0 es cs k k c nobody (omega (arith, h, long)) (omega arith),
    ))

-- a shard's sessions after its history

own_left : {n r : ℕ} (last k m : ℕ) (event : Event) (es : List ShardEvent) (ss : List Running) → 0 < n → r < n → (k % n ≡ r) ⊎ (k % n ≢ r)
    → share n r (left_by last es (moved last (Own k m event) ss))
    ≡ left_by last (history_of n r es) (share n r (moved last (Own k m event) ss))
    → share n r (left_by last (Own k m event ∷ es) ss) ≡ left_by last (history_of n r (Own k m event ∷ es)) (share n r ss)
own_left {n} {r} last k m event es ss some h (inl same) rest =
    let here : share n r (moved last (Own k m event) ss) ≡ moved last (Own (k / n) m event) (share n r ss) =
    rw (← same) (own_here k m last event ss some) in
    cc (eq-eqb (k % n) r same)
own_left {n} {r} last k m event es ss some h (inr other) rest = cc (own_away n r k m last event ss some h other, ne_eqb (k % n) r other)

share_left : {n r : ℕ} (last : ℕ) (es : List ShardEvent) (ss : List Running) → 0 < n → r < n
    → share n r (left_by last es ss) ≡ left_by last (history_of n r es) (share n r ss)
share_left last [] ss some h = refl
share_left {n} {r} last (Own k m event ∷ es) ss some h =
    own_left last k m _ es ss some h (cases_eq (k % n) r) (share_left last es (moved last (Own k m event) ss) some h)
share_left {n} {r} last (Tick t ∷ es) ss some h = cc (share_left (max last t) es (moved last (Tick t) ss) some h, tick_here n r t last ss)

pub runs_share : (n r : ℕ) (es : List ShardEvent) (cs : List SessionConfig) → r < n
    → runs (history_of n r es) (share n r cs) ≡ share n r (runs es cs)
runs_share n r es cs h =
    cc (
      left_runs (history_of n r es) (share n r cs),
      share_map started n r cs,
      share_left 0 es (map started cs) (omega (arith, h)) h,
      left_runs es cs,
    )

-- the events of a queue

queued : (n number : ℕ) (o : Option ShardEvent) (rest : List Numbered)
    → map (λ (e : Numbered). e.event) (cons_option (numbered number o) rest) ≡ cons_option o (map (λ (e : Numbered). e.event) rest)
queued n number None rest = refl
queued n number (Some e) rest = refl

pub queue_events : (n r number : ℕ) (hs : List Happening)
    → map (λ (e : Numbered). e.event) (queue n r number hs) ≡ history_of n r (filter_map session_event hs)
queue_events n r number [] = refl
queue_events n r number (Apart o ∷ hs) = queue_events n r (number + 1) hs
queue_events n r number (Among e ∷ hs) = cc (queued n number (event_in n r e) (queue n r (number + 1) hs), queue_events n r (number + 1) hs)

-- one more event

queue_by : (o : Option Numbered) {xs : List Numbered} (ys zs : List Numbered) → xs ≡ ys ++ zs → cons_option o xs ≡ cons_option o ys ++ zs
queue_by None ys zs e = e
queue_by (Some x) ys zs e = cc

same_number : (n k : ℕ) → n + 1 + k ≡ n + suc k
same_number n k = omega arith

pub queue_more : (n r number : ℕ) (hs : List Happening) (h : Happening)
    → queue n r number (hs ++ h ∷ []) ≡ queue n r number hs ++ cons_option (numbered (number + length hs) (in_shard n r h)) []
queue_more n r number [] h = ap (λ k. cons_option (numbered k (in_shard n r h)) []) (let z : number ≡ number + 0 = omega arith in z)
queue_more n r number (x ∷ hs) h =
    queue_by (numbered number (in_shard n r x)) (queue n r (number + 1) hs)
    (cons_option (numbered (number + suc (length hs)) (in_shard n r h)) [])
    (cc (queue_more n r (number + 1) hs h, same_number number (length hs)))

pub apart_more : (number : ℕ) (hs : List Happening) (o : Outcome)
    → apart_pieces number (hs ++ Apart o ∷ []) ≡ apart_pieces number hs ++ whole_piece (number + length hs) o ∷ []
apart_more number [] o = ap (λ k. whole_piece k o ∷ []) (let z : number ≡ number + 0 = omega arith in z)
apart_more number (Apart x ∷ hs) o = cc (apart_more (number + 1) hs o, same_number number (length hs))
apart_more number (Among e ∷ hs) o = cc (apart_more (number + 1) hs o, same_number number (length hs))

pub among_more : (number : ℕ) (hs : List Happening) (e : ShardEvent) → apart_pieces number (hs ++ Among e ∷ []) ≡ apart_pieces number hs
among_more number [] e = refl
among_more number (Apart x ∷ hs) e = cc (among_more (number + 1) hs e)
among_more number (Among x ∷ hs) e = among_more (number + 1) hs e

-- events behind others

pub queue_append : (n r number : ℕ) (xs ys : List Happening)
    → queue n r number (xs ++ ys) ≡ queue n r number xs ++ queue n r (number + length xs) ys
queue_append n r number [] ys = ap (λ k. queue n r k ys) (let z : number ≡ number + 0 = omega arith in z)
queue_append n r number (x ∷ xs) ys = queue_by (numbered number (in_shard n r x)) (queue n r (number + 1) xs)
    (queue n r (number + suc (length xs)) ys)
    (cc (queue_append n r (number + 1) xs ys, same_number number (length xs)))

pub apart_append : (number : ℕ) (xs ys : List Happening)
    → apart_pieces number (xs ++ ys) ≡ apart_pieces number xs ++ apart_pieces (number + length xs) ys
apart_append number [] ys = ap (λ k. apart_pieces k ys) (let z : number ≡ number + 0 = omega arith in z)
apart_append number (Apart o ∷ xs) ys = cc (apart_append (number + 1) xs ys, same_number number (length xs))
apart_append number (Among e ∷ xs) ys = cc (apart_append (number + 1) xs ys, same_number number (length xs))

reported_more : (last : ℕ) (xs : List Numbered) (x : Numbered) (ss : List Running)
    → shard_pieces last (xs ++ x ∷ []) ss ≡ shard_pieces last xs ss ++ event_pieces x.number x.event
    (outcome_of (last_from last (map (λ (e : Numbered). e.event) xs)) x.event (left_by last (map (λ (e : Numbered). e.event) xs) ss))
unfolding last_from
reported_more last [] x ss = append-nil (event_pieces x.number x.event (outcome_of last x.event ss))
reported_more last (y ∷ xs) x ss = cc (
  reported_more (later last y.event) xs x (moved last y.event ss),
  append_assoc (event_pieces y.number y.event (outcome_of last y.event ss)) (shard_pieces (later last y.event) xs (moved last y.event ss))
      (event_pieces x.number x.event (outcome_of (last_from (later last y.event) (map (λ e. e.event) xs)) x.event
      (left_by (later last y.event) (map (λ e. e.event) xs) (moved last y.event ss)))),
)

pub reported_runs : (xs : List Numbered) (x : Numbered) (cs : List SessionConfig)
    → shard_pieces 0 (xs ++ x ∷ []) (map started cs) ≡ shard_pieces 0 xs (map started cs) ++ event_pieces x.number x.event
    (outcome_of (last_tick (map (λ (e : Numbered). e.event) xs)) x.event (runs (map (λ (e : Numbered). e.event) xs) cs))
reported_runs xs x cs = cc (reported_more 0 xs x (map started cs), left_runs (map (λ e. e.event) xs) cs)
