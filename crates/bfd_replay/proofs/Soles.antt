-- What a caller has seen, where it is the only one.
use Rattle.bfd_replay.proofs.WorkerCommon.{◌≡◌, ◌≢◌, ◌<◌, ◌≤◌, ◌+◌, ◌++◌, ◌∙◌, ◌∷◌, ℕ, [], List, length, sym, ap, subst, refl, append-nil}
use Rattle.bfd_replay.proofs.WorkerCommon.{arith, length-append, length-map, map-append, eq-eqb, ne_eqb, dite, ℕ_discrete, SessionConfig}
use Rattle.bfd_replay.proofs.WorkerCommon.{calls, EngineFault, Shards, Knows, configs_at, seen_at, taken_at, Numbered, Piece, entries_by}
use Rattle.bfd_replay.proofs.WorkerCommon.{events_in, IsSole, HasDoneEvents, HasReported, IsTurnRefused, IsStopAt, Entry, Memory, Full}
use Rattle.bfd_replay.proofs.WorkerCommon.{Spent}
use Rattle.bfd_replay.proofs.WorkerCommon.{by, entry_of, given_after, events_of, last_tick, outcome_of, runs, reported_runs}
use Rattle.bfd_shard.specs.declared.entry.ShardEvent.{ShardEvent}

pub front_sole : (w : ℕ) (xs ys : List Entry) → IsSole w (xs ++ ys) → IsSole w xs
front_sole w [] ys h = tt
front_sole w (x ∷ xs) ys h = (h.0, front_sole w xs ys h.1)

back_sole : (w : ℕ) (xs ys : List Entry) → IsSole w (xs ++ ys) → IsSole w ys
back_sole w [] ys h = h
back_sole w (x ∷ xs) ys h = back_sole w xs ys h.1

calls_first : (n : ℕ) (x : Entry) (xs : List Entry) → by x ≡ n → calls by n (x ∷ xs) ≡ x ∷ calls by n xs
calls_first n x xs h = rw (eq-eqb (by x) n h) refl

-- entries of this caller alone, of which none is its own, are none
nobody : (w : ℕ) (xs : List Entry) → IsSole w xs → calls by w xs ≡ [] → xs ≡ []
nobody w [] h none = refl
nobody w (x ∷ xs) h none = let e : x ∷ calls by w xs ≡ [] = cc (calls_first w x xs h.0) in absurd (cc)

pub all_calls : (w : ℕ) (xs : List Entry) → IsSole w xs → calls by w xs ≡ xs
all_calls w [] h = refl
all_calls w (x ∷ xs) h = cc (calls_first w x xs h.0, all_calls w xs h.1)

rest_none : {n : ℕ} (x : Entry) (xs : List Entry) → by x ≢ n → calls by n (x ∷ xs) ≡ [] → calls by n xs ≡ []
rest_none {n} x xs h none = let t : calls by n (x ∷ xs) ≡ calls by n xs = rw (ne_eqb (by x) n h) refl in cc

-- the entries of which no other caller has one
pub sole_of : (w : ℕ) (xs : List Entry) → ((n : ℕ) → n ≢ w → calls by n xs ≡ []) → IsSole w xs
sole_of w [] none = tt
sole_of w (x ∷ xs) none = dite (ℕ_discrete (by x) w)
    (λ same. (same, sole_of w xs (λ n other. rest_none x xs (λ z. other (cc)) (none n other))))
    (λ other. let e = sym (calls_first (by x) x xs refl) ∙ none (by x) other in absurd (cc))

-- nothing came between
pub between_none : (w : ℕ) (seen between more : List Entry) → calls by w between ≡ [] → IsSole w ((seen ++ between) ++ more)
    → seen ++ between ≡ seen
between_none w seen between more others sole =
    cc (nobody w between (back_sole w seen between (front_sole w (seen ++ between) more sole)) others, append-nil seen)

pub events_entries : (w : ℕ) (es : List ShardEvent) → events_of (entries_by w es) ≡ es
events_entries w [] = refl
events_entries w (e ∷ es) = cc (events_entries w es)

pub given_done : (w : ℕ) (cs : List SessionConfig) {before : List Entry} (es : List ShardEvent) (event : ShardEvent)
    → before ≡ entries_by w es
    → given_after cs before event ≡ outcome_of (last_tick es) event (runs es cs)
given_done w cs es event is = cc (events_entries w es)

-- one more event
pub done_more : {engine : Shards} {shard : ℕ} {k l : Knows} {done : List Numbered} {e : Numbered} {part part2 : List Piece}
    → HasReported engine shard e k l part part2
    → l.0 ≡ k.0 → taken_at l shard ≤ taken_at k shard + 1 → HasDoneEvents engine shard k.0 done (seen_at k shard) (taken_at k shard) part
    → HasDoneEvents engine shard l.0 (done ++ e ∷ []) (seen_at l shard) (taken_at l shard) part2
done_more {engine} {shard} {k} {l} {done} {e} t number taken d =
    let sole_before : IsSole l.0 (seen_at l shard) → IsSole k.0 ((seen_at k shard ++ t.between) ++ entry_of k.0 e.event ∷ []) =
    λ s. subst (λ n. IsSole n ((seen_at k shard ++ t.between) ++ entry_of k.0 e.event ∷ [])) number (subst (IsSole l.0) t.here s) in
    let same : IsSole l.0 (seen_at l shard) → seen_at k shard ++ t.between ≡ seen_at k shard =
    λ s. between_none k.0 (seen_at k shard) t.between (entry_of k.0 e.event ∷ []) t.others (sole_before s) in
    let sole_first : IsSole l.0 (seen_at l shard) → IsSole k.0 (seen_at k shard) =
    λ s. front_sole k.0 (seen_at k shard) t.between
    (front_sole k.0 (seen_at k shard ++ t.between) (entry_of k.0 e.event ∷ []) (sole_before s)) in
    let before_is : IsSole l.0 (seen_at l shard) → seen_at k shard ++ t.between ≡ entries_by k.0 (events_in done) = λ s. same s
    ∙ d.seen_is (sole_first s) in
    record {
      seen_is = λ s. cc (before_is s, map-append (entry_of k.0) (events_in done) (e.event ∷ []), map-append (λ x. x.event) done (e ∷ []));
      reported_is = λ s. cc (
        d.reported_is (sole_first s),
        given_done k.0 (configs_at engine shard) (events_in done) e.event (before_is s),
        reported_runs done e (configs_at engine shard),
      );
      few = omega (arith, d.few, taken, length-append done (e ∷ []));
    }

-- a turn that was refused in the midst of the queue
pub stopped_at : (fault : EngineFault) {engine : Shards} {shard most : ℕ} (k l : Knows) {done : List Numbered} {part : List Piece}
    → IsTurnRefused fault engine shard k l → l.0 ≡ k.0
    → HasDoneEvents engine shard k.0 done (seen_at k shard) (taken_at k shard) part → length done < most
    → IsStopAt fault engine shard most l
stopped_at Memory k l r number d less = tt
stopped_at (Spent at word) k l r number d less = r
stopped_at (Full at n) {shard} k l {done} r number d less = (
  r.0,
  λ s. let sole : IsSole k.0 (seen_at k shard ++ r.1.0) = rw (← number) (subst (IsSole l.0) r.1.2 s) in
      let is : seen_at l shard ≡ entries_by k.0 (events_in done) =
      cc (
        nobody k.0 r.1.0 (back_sole k.0 (seen_at k shard) r.1.0 sole) r.1.1,
        append-nil (seen_at k shard),
        d.seen_is (front_sole k.0 (seen_at k shard) r.1.0 sole),
      ) in
      omega (arith, ap length is, length-map (events_in done) (entry_of k.0), length-map done (λ x. x.event), less),
)
