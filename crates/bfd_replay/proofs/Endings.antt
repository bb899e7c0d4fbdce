-- Once the engine is closed: each shard's journal has its own worker's entries alone, so each worker reported what its queues give.
use Rattle.bfd_replay.proofs.WorkerCommon.{◌≡◌, ◌≢◌, ◌<◌, ◌≤◌, ◌+◌, ◌%◌, ◌==◌, ◌||◌, ◌∙◌, ◌∷◌, Bool, true, false, ℕ, zero, suc, [], List}
use Rattle.bfd_replay.proofs.WorkerCommon.{length, map, get_or, sym, ap, subst, refl, arith, Some, Result, Ok, Err, slice_get}
use Rattle.bfd_replay.proofs.WorkerCommon.{slice_index_or, if◌then◌else◌, length-map, get_or-map, slice_get-get_or, slice_get_within}
use Rattle.bfd_replay.proofs.WorkerCommon.{get_or_from_slice_get, eq-eqb, dite, ℕ_discrete, Shard, calls, has, numbers_of, EngineFault}
use Rattle.bfd_replay.proofs.WorkerCommon.{Shards, Knows, seen_at, met_word, made_at, kept_at, mine, EachJoined, IsClosed, AreClosed}
use Rattle.bfd_replay.proofs.WorkerCommon.{Numbered, Piece, AreMet, IsWorkerReady, HasUsedAt, IsSole, IsStopAt, AllJobsJoined, AreJobs}
use Rattle.bfd_replay.proofs.WorkerCommon.{AreOwn, HasEnded, HasWorkedOn, IsFreshAt, IsJoining, IsNewJob, Work, number_of, own_queue, Entry}
use Rattle.bfd_replay.proofs.WorkerCommon.{Memory, Full, Spent, by, AreStates, AreReported, IsDoneJob, IsFine, IsState, HasReportedShards}
use Rattle.std.proofs.lemmas.Bool.Decides.{nat_tests}
use Rattle.std.proofs.Math.Nat.{mod-lt}
use Rattle.bfd_turn.specs.Plays.{AllKept}
use Rattle.bfd_turn.specs.Passes.{last_word}
use Rattle.bfd_replay.proofs.Soles.{all_calls, front_sole, sole_of}
use Rattle.bfd_replay.proofs.OneCaller.{closed_at}
use Rattle.bfd_replay.proofs.Joining.{own_away}

own_here : (workers at s : ℕ) (queue : List Numbered) → s % workers ≡ at → own_queue workers at s queue ≡ queue
own_here workers at s queue h = rw (eq-eqb (s % workers) at h) refl

short : (b : Bool) (queue : List Numbered) → length (if b then queue else []) ≤ length queue
short true queue = omega arith
short false queue = omega arith

-- a job that was done
done_job : {engine : Shards} {queues : List (List Numbered)} {workers i : ℕ} {w v : Work} → length queues ≡ length engine.locks
    → IsNewJob engine queues workers i w → HasWorkedOn engine w v
    → IsDoneJob engine queues workers i v
done_job {w} {v} long new worked = record {
  of = worked.left.of;
  there = worked.left.there;
  number = cc;
  used = λ s h. subst (HasUsedAt v.pass s) (new.own.each s (omega (arith, h, long))) (worked.left.used s h);
  mine = w.queues;
  own = new.own;
  ended = worked.ended;
}

pub done_jobs : {engine : Shards} {queues : List (List Numbered)} {workers : ℕ} {l : Knows} {works : List Work} (after : List Work)
    → length queues ≡ length engine.locks → AreJobs engine queues workers workers l works
    → length after ≡ length works → ((i : ℕ) (d : Work) → i < length works → HasWorkedOn engine (get_or works i d) (get_or after i d))
    → (i : ℕ) (v : Work) → slice_get after i ≡ Some v → IsDoneJob engine queues workers i v
done_jobs {engine} {works} after long jobs same worked i v e =
    let inside : i < length works = omega (arith, slice_get_within after i v e, same) in
    done_job long (jobs.each i (get_or works i v) (slice_get-get_or works i v inside))
    (subst (HasWorkedOn engine (get_or works i v)) (get_or_from_slice_get after i v v e) (worked i v inside))

pub joining : {engine : Shards} {queues : List (List Numbered)} {workers i : ℕ} {v : Work}
    → ((s : ℕ) → length (slice_index_or queues s []) ≤ 200000) → IsDoneJob engine queues workers i v → IsJoining engine 200000 v
joining {queues} {workers} {i} few d = record {
  of = d.of;
  there = d.there;
  number = (λ z. absurd (omega (arith, d.number, z)));
  few = λ s h. omega (arith, (d.used s h).few, short (s % workers == i) (slice_index_or queues s []), few s);
}

-- the numbers of the joined passes are those that were made

same_numbers : (xs ys : List Work) → length xs ≡ length ys
    → ((i : ℕ) (d : Work) → i < length xs → number_of (get_or ys i d) ≡ number_of (get_or xs i d)) → map number_of ys ≡ map number_of xs
same_numbers [] [] e same = refl
same_numbers (x ∷ xs) (y ∷ ys) e same = cc (
  same 0 x (omega arith),
  same_numbers xs ys (omega (arith, e)) (λ i d h. same (suc i) d (omega (arith, h))),
)
same_numbers xs ys e same = absurd (omega (arith, e))

kept_numbers : (works : List Work) (s : ℕ) → numbers_of (map (λ (w : Work). (w.pass.0, mine w.pass s)) works) ≡ map number_of works
kept_numbers [] s = refl
kept_numbers (w ∷ works) s = cc (kept_numbers works s)

-- what is known before the engine is closed
pub record AtEnd (engine : Shards) (queues : List (List Numbered)) (workers : ℕ) (k l : Knows) (works : List Work) : Type 0 where
  pub some : 0 < workers
  pub few : workers ≤ 64
  pub long : length works ≡ workers
  pub first : k.0 ≡ 0
  pub fresh : (s : ℕ) → s < length engine.locks → IsFreshAt k s (map number_of works)
  pub joined : AllJobsJoined engine 200000 k l works
  pub each : (i : ℕ) (v : Work) → slice_get works i ≡ Some v → IsDoneJob engine queues workers i v

pub at_end : {engine : Shards} {queues : List (List Numbered)} {workers : ℕ} {k l : Knows} {works after : List Work} → 0 < workers
    → workers ≤ 64 → length queues ≡ length engine.locks
    → AreJobs engine queues workers workers k works → length after ≡ length works
    → ((i : ℕ) (d : Work) → i < length works → HasWorkedOn engine (get_or works i d) (get_or after i d))
    → AllJobsJoined engine 200000 k l after → AtEnd engine queues workers k l after
at_end {k} {works} {after} some few long jobs same worked joined = record {
  some = some;
  few = few;
  long = cc;
  first = jobs.number;
  fresh = λ s h. subst (IsFreshAt k s) (sym (same_numbers works after (sym same) (λ i d inside. (worked i d inside).left.number)))
      (jobs.fresh s h);
  joined = joined;
  each = done_jobs after long jobs same worked;
}

kept_is : {engine : Shards} {queues : List (List Numbered)} {workers : ℕ} {k l : Knows} {works : List Work} {s : ℕ}
    → AtEnd engine queues workers k l works → s < length engine.locks
    → kept_at l s ≡ map (λ w. (w.pass.0, mine w.pass s)) works
kept_is {s} a h = cc ((a.joined.each s h).kept, (a.fresh s h).kept)

made_is : {engine : Shards} {queues : List (List Numbered)} {workers : ℕ} {k l : Knows} {works : List Work} {s : ℕ}
    → AtEnd engine queues workers k l works → s < length engine.locks
    → made_at l s ≡ map number_of works
made_is {s} a h = (a.joined.each s h).made ∙ (a.fresh s h).made

pub each_joined : {engine : Shards} {queues : List (List Numbered)} {workers : ℕ} {k l : Knows} {works : List Work}
    → AtEnd engine queues workers k l works → EachJoined engine l
each_joined {works} a s n h made = cc (kept_is a h, kept_numbers works s, made_is a h)

-- whose number is in the list

record IsMember (n : ℕ) (works : List Work) : Type 0 where
  at : ℕ
  work : Work
  there : slice_get works at ≡ Some work
  number : work.pass.0 ≡ n

member_by : (b : Bool) {n : ℕ} (w : Work) {works : List Work} → (w.pass.0 == n) ≡ b → (b || has n (map number_of works)) ≡ true
    → (has n (map number_of works) ≡ true → IsMember n works) → IsMember n (w ∷ works)
member_by true w is h later = record { at = 0; work = w; there = refl; number = grind (arith, nat_tests, is) }
member_by false w is h later = let m = later h in record { at = suc m.at; work = m.work; there = m.there; number = m.number }

member : (n : ℕ) (works : List Work) → has n (map number_of works) ≡ true → IsMember n works
member n [] h = absurd (cc)
member n (w ∷ works) h = member_by _ w refl h (member n works)

kept_calls : {engine : Shards} {queues : List (List Numbered)} {workers : ℕ} {k l : Knows} {works : List Work} {s : ℕ} (i : ℕ) {v : Work}
    (journal : List Entry) → AtEnd engine queues workers k l works → s < length engine.locks
    → AllKept by (kept_at l s) journal → slice_get works i ≡ Some v → calls by v.pass.0 journal ≡ mine v.pass s
kept_calls {works} {s} i {v} journal a h kept e =
    let f : Work → ℕ × List Entry = λ w. (w.pass.0, mine w.pass s) in
    let inside : i < length works = slice_get_within works i v e in
    let d : ℕ × List Entry = (v.pass.0, mine v.pass s) in
    let at : get_or (map f works) i d ≡ d = cc (get_or-map f works i v d inside, get_or_from_slice_get works i v v e) in
    let all : AllKept by (map f works) journal = rw (← kept_is a h) kept in
    subst (λ (j : ℕ × List Entry). calls by j.0 journal ≡ j.1) at (all i d (omega (arith, inside, length-map works f)))

none_of : (b : Bool) {engine : Shards} {queues : List (List Numbered)} {workers : ℕ} {k l : Knows} {works : List Work} {s
    n : ℕ} {shard : Shard} → has n (map number_of works) ≡ b
    → AtEnd engine queues workers k l works → s < length engine.locks → IsClosed engine l s shard → n ≢ 0 → n ≢ s % workers + 1
    → calls by n shard.journal ≡ []
none_of false {n} is a h closed other away = closed.unmade n other (cc (made_is a h))
none_of true {queues} {workers} {works} {s} {n} {shard} is a h closed other away =
    let m = member n works is in
    let d = a.each m.at m.work m.there in
    let differs : s % workers ≢ m.at = (λ same. away (cc)) in
    cc (
      kept_calls m.at shard.journal a h closed.kept m.there,
      ((d.used s h).none (own_away workers m.at s (slice_index_or queues s []) differs)).seen,
    )

first_none : {engine : Shards} {queues : List (List Numbered)} {workers : ℕ} {k l : Knows} {works : List Work} {s : ℕ} {journal : List
    Entry} → AtEnd engine queues workers k l works → s < length engine.locks
    → journal ≡ seen_at l s → calls by 0 journal ≡ []
first_none {s} a h is = cc ((a.joined.each s h).own, (a.fresh s h).seen)

-- a shard's journal has its own worker's entries alone
sole : {engine : Shards} {queues : List (List Numbered)} {workers : ℕ} {k l : Knows} {works : List Work} {s : ℕ} {shard : Shard}
    → AtEnd engine queues workers k l works → s < length engine.locks
    → IsClosed engine l s shard → IsSole (s % workers + 1) shard.journal
sole {workers} {works} {s} {shard} a h closed = sole_of (s % workers + 1) shard.journal (λ n away. dite (ℕ_discrete n 0)
    (λ zero_is. cc (first_none a h closed.journal)) (λ other. none_of (has n (map number_of works)) refl a h closed other away))

-- so is what the worker itself has seen
sole_seen : {engine : Shards} {queues : List (List Numbered)} {workers : ℕ} {k l : Knows} {works : List Work} {s
    i : ℕ} {v : Work} {shard : Shard} → AtEnd engine queues workers k l works → s < length engine.locks
    → IsClosed engine l s shard → slice_get works i ≡ Some v → i ≡ s % workers → IsSole v.pass.0 (seen_at v.pass s)
sole_seen {workers} {s} {i} {v} a h closed e own =
    let number : v.pass.0 ≡ s % workers + 1 = cc ((a.each i v e).number) in
    let begins = (a.joined.each s h).begins i v e in
    rw number (front_sole (s % workers + 1) (seen_at v.pass s) begins.0 (rw (← closed.journal ∙ begins.1) (sole a h closed)))

-- the journal is what it has seen
journal_seen : {engine : Shards} {queues : List (List Numbered)} {workers : ℕ} {k l : Knows} {works : List Work} {s
    i : ℕ} {v : Work} {shard : Shard} → AtEnd engine queues workers k l works → s < length engine.locks
    → IsClosed engine l s shard → slice_get works i ≡ Some v → i ≡ s % workers → shard.journal ≡ seen_at v.pass s
journal_seen {workers} {s} {i} {v} {shard} a h closed e own =
    let number : v.pass.0 ≡ s % workers + 1 = cc ((a.each i v e).number) in
    cc (
      all_calls (s % workers + 1) shard.journal (sole a h closed),
      kept_calls i shard.journal a h closed.kept e,
      all_calls v.pass.0 (seen_at v.pass s) (sole_seen a h closed e own),
    )

-- what a worker reported of a shard of its own

own_at : {workers i : ℕ} (s : ℕ) {queues own : List (List Numbered)} → AreOwn workers i queues own → s < length queues → s % workers ≡ i
    → slice_index_or own s [] ≡ slice_index_or queues s []
own_at {workers} {i} s {queues} are inside same = are.each s inside ∙ own_here workers i s (slice_index_or queues s []) same

-- the closed shards
pub record AllClosed (engine : Shards) (queues : List (List Numbered)) (workers : ℕ) (k l : Knows) (works : List Work)
    (shards : List Shard) : Type 0 where
  pub atend : AtEnd engine queues workers k l works
  pub closed : AreClosed engine l shards
  pub queues_long : length queues ≡ length engine.locks
  pub short_queues : (s : ℕ) → length (slice_index_or queues s []) ≤ engine.limit
  pub small : engine.limit ≤ 200000

reported_at : (engine : Shards) (queues : List (List Numbered)) (workers : ℕ) (k l : Knows) (works : List Work) (shards : List Shard)
    (i : ℕ)
    (v : Work) → AllClosed engine queues workers k l works shards
    → slice_get works i ≡ Some v → (reported_is : Result (List (List Piece)) EngineFault) → v.reported ≡ reported_is
    → HasReportedShards engine queues workers i reported_is
reported_at engine queues workers k l works shards i v c e (Err fault) is = tt
reported_at engine queues workers k l works shards i v c e (Ok parts) is =
    let d = c.atend.each i v e in
    let f = subst (HasEnded engine d.mine v.pass) is d.ended in (
      f.long,
      λ s h same.
          cc (
            (f.done s h).reported_is (sole_seen c.atend h (closed_at _ c.closed h).1 e (sym same)),
            own_at s d.own (omega (arith, h, c.queues_long)) same,
          ),
    )

-- no worker stopped but when out of memory

-- a full journal can't be where the caller is the only one
never_full : {engine : Shards} {queues : List (List Numbered)} {workers : ℕ} {k l : Knows} {works : List Work} {shards : List Shard}
    (i : ℕ) {s : ℕ} {v : Work} → AllClosed engine queues workers k l works shards
    → slice_get works i ≡ Some v → s < length engine.locks → length (seen_at v.pass s) ≡ engine.limit
    → (IsSole v.pass.0 (seen_at v.pass s) → length (seen_at v.pass s) < length (own_queue workers i s (slice_index_or queues s []))) → ⊥
never_full {queues} {workers} {shards} i {s} {v} c e h full less =
    dite (ℕ_discrete (s % workers) i) (λ same. absurd
    (omega (
      arith,
      less (sole_seen c.atend h (closed_at _ c.closed h).1 e (sym same)),
      short (s % workers == i) (slice_index_or queues s []),
      c.short_queues s,
      full,
    )))
    (λ other. let none = own_away workers i s (slice_index_or queues s []) other in
    absurd (omega (arith, less (subst (IsSole v.pass.0) (sym (((c.atend.each i v e).used s h).none none).seen) tt), ap length none)))

-- nor the last word
never_spent : {engine : Shards} {queues : List (List Numbered)} {workers : ℕ} {k l : Knows} {works : List Work} {shards : List Shard}
    (i : ℕ) {s : ℕ} {v : Work} → AllClosed engine queues workers k l works shards
    → slice_get works i ≡ Some v → s < length engine.locks → met_word v.pass s ≡ last_word → ⊥
never_spent {shards} i {s} {v} c e h last =
    let j = c.atend.joined.each s h in
    absurd (omega (
      arith,
      (closed_at _ c.closed h).1.word,
      j.few,
      (c.atend.fresh s h).taken,
      j.words i v e,
      c.atend.long,
      c.atend.few,
      last,
    ))

fine_by : {engine : Shards} {queues : List (List Numbered)} {workers : ℕ} {k l : Knows} {works : List Work} {shards : List Shard}
    (i : ℕ) {s : ℕ} {v : Work} (fault : EngineFault) → AllClosed engine queues workers k l works shards
    → slice_get works i ≡ Some v → s < length engine.locks
    → IsStopAt fault engine s (length (own_queue workers i s (slice_index_or queues s []))) v.pass → IsFine (Err fault)
fine_by i Memory c e h stop = tt
fine_by i (Full at n) c e h stop = never_full i c e h stop.0 stop.1
fine_by i (Spent at word) c e h stop = never_spent i c e h stop

fine_at : {engine : Shards} {queues : List (List Numbered)} {workers : ℕ} {k l : Knows} {works : List Work} {shards : List Shard}
    (i : ℕ) {v : Work} → AllClosed engine queues workers k l works shards
    → slice_get works i ≡ Some v → (reported_is : Result (List (List Piece)) EngineFault) → v.reported ≡ reported_is → IsFine reported_is
fine_at i c e (Ok parts) is = tt
fine_at {engine} i {v} c e (Err fault) is =
    let d = c.atend.each i v e in
    let stop = subst (HasEnded engine d.mine v.pass) is d.ended in
    fine_by i fault c e stop.inside (rw (← d.own.each stop.shard (omega (arith, c.queues_long, stop.inside))) stop.stop)

work_at : (i : ℕ) (end : Result (List (List Piece)) EngineFault) (ws : List Work) → i < length ws → (v : Work) × (slice_get ws i ≡ Some v)
    × (get_or (map (λ (w : Work). w.reported) ws) i end ≡ v.reported)
work_at i end [] h = absurd (omega (arith, h))
work_at zero end (w ∷ ws) h = (w, refl, refl)
work_at (suc i) end (w ∷ ws) h = let r = work_at i end ws (omega (arith, h)) in (r.0, r.1, r.2)

-- each worker's end, as the list of them has it
pub record IsEnd (engine : Shards) (queues : List (List Numbered)) (workers i : ℕ) (end : Result (List (List Piece)) EngineFault) : Type 0
  where
    pub fine : IsFine end
    pub reported : HasReportedShards engine queues workers i end

ends : {engine : Shards} {queues : List (List Numbered)} {workers : ℕ} {k l : Knows} {works : List Work} {shards : List
    Shard} {worker_parts : List
    (Result (List (List Piece)) EngineFault)} → AllClosed engine queues workers k l works shards
    → worker_parts ≡ map (λ w. w.reported) works → (i : ℕ) {end : Result (List (List Piece)) EngineFault}
    → slice_get worker_parts i ≡ Some end
    → IsEnd engine queues workers i end
ends {engine} {queues} {workers} {k} {l} {works} {shards} {worker_parts} c are i {end} e =
    let inside : i < length works = (let d = length-map works (λ w. w.reported) in
    omega (arith, slice_get_within worker_parts i end e, ap length are, d)) in
    let v = (work_at i end) works inside in
    let is : v.0.reported ≡ end = cc (get_or_from_slice_get worker_parts i end end e) in
    record { fine = fine_at i c v.1 end is; reported = reported_at _ _ _ k l _ _ i v.0 c v.1 end is }

work_there : (i : ℕ) (ws : List Work) → i < length ws → (v : Work) × (slice_get ws i ≡ Some v)
work_there i [] h = absurd (omega (arith, h))
work_there zero (w ∷ ws) h = (w, refl)
work_there (suc i) (w ∷ ws) h = work_there i ws (omega (arith, h))

all_parts : (i : ℕ) (v : Work) (works : List Work) (worker_parts : List (List (List Piece)))
    → map (λ (w : Work). w.reported) works ≡ map Ok worker_parts
    → slice_get works i ≡ Some v → v.reported ≡ Ok (get_or worker_parts i [])
all_parts i v [] worker_parts is e = absurd (omega (arith, slice_get_within [] i v e))
all_parts i v (w ∷ works) [] is e = absurd (cc)
all_parts zero v (w ∷ works) (t ∷ worker_parts) is e = let a : w ≡ v = cc in
    ap (λ x. x.reported) (sym a) ∙ (let b : w.reported ≡ Ok t = cc in b)
all_parts (suc i) v (w ∷ works) (t ∷ worker_parts) is e = all_parts i v works worker_parts (cc) e

state_at : {engine : Shards} {queues : List (List Numbered)} {workers : ℕ} {k l : Knows} {works : List Work} {shards : List Shard}
    (worker_parts : List (List (List Piece))) (s : ℕ) {shard : Shard}
    → AllClosed engine queues workers k l works shards → map (λ (w : Work). w.reported) works ≡ map Ok worker_parts
    → slice_get shards s ≡ Some shard
    → IsState engine queues workers s shard
state_at {engine} {workers} {works} {shards} worker_parts s {shard} c all_ok e =
    let h : s < length engine.locks = omega (arith, slice_get_within shards s shard e, c.closed.long) in
    let closed = c.closed.each s shard e in
    let some = work_there (s % workers) works (omega (arith, mod-lt s c.atend.some, c.atend.long)) in
    let v = some.0 in
    let d = c.atend.each (s % workers) v some.1 in
    let f = subst (HasEnded engine d.mine v.pass) (all_parts (s % workers) v works worker_parts all_ok some.1) d.ended in
    record {
      configs = closed.configs;
      journal = cc (
        journal_seen c.atend h closed some.1 refl,
        (f.done s h).seen_is (sole_seen c.atend h closed some.1 refl),
        own_at s d.own (omega (arith, h, c.queues_long)) refl,
      );
    }

-- the closed shards' states
pub states : {engine : Shards} {queues : List (List Numbered)} {workers : ℕ} {k l : Knows} {works : List Work} {shards : List Shard}
    (worker_parts : List (List (List Piece))) → AllClosed engine queues workers k l works shards
    → map (λ w. w.reported) works ≡ map Ok worker_parts → AreStates engine queues workers shards
states worker_parts c all_ok = record {
  long = c.closed.long;
  each = λ s shard e. state_at worker_parts s c all_ok e;
}

-- a new job is ready to be worked on
met_by : (b : Bool) (engine : Shards) (s : ℕ) (queue : List Numbered) → AreMet engine s queue → AreMet engine s (if b then queue else [])
met_by true engine s queue met = met
met_by false engine s queue met = tt

ready_own : (engine : Shards) {queues : List (List Numbered)} {workers i s : ℕ} {own : List (List Numbered)} → AreOwn workers i queues own
    → s < length queues → AreMet engine s (slice_index_or queues s []) → AreMet engine s (slice_index_or own s [])
ready_own engine {queues} {workers} {i} {s} are h met =
    subst (AreMet engine s) (sym (are.each s h)) (met_by (s % workers == i) engine s (slice_index_or queues s []) met)

pub all_ready : (engine : Shards) (queues : List (List Numbered)) (workers at : ℕ) (l : Knows) (works : List Work) → 0 < length engine.locks
    → length engine.locks ≤ 64 → length queues ≡ length engine.locks
    → ((s : ℕ) → s < length engine.locks → AreMet engine s (slice_index_or queues s [])) → AreJobs engine queues workers at l works
    → (i : ℕ) (d : Work) → i < length works
    → IsWorkerReady engine (get_or works i d).queues (get_or works i d).pass
all_ready engine queues workers at l works some few long met jobs i d h =
    let w = jobs.each i (get_or works i d) (slice_get-get_or works i d h) in
    record {
      of = w.of;
      there = w.there;
      some = some;
      few = few;
      long = cc;
      met = λ s inside. ready_own engine w.own (omega (arith, inside, long)) (met s inside);
      idle = w.idle;
    }

-- the parts of all workers
pub reported_all : {engine : Shards} {queues : List (List Numbered)} {workers : ℕ} {k l : Knows} {works : List Work} {shards : List Shard}
    (all : List (List (List Piece))) → AllClosed engine queues workers k l works shards
    → map (λ w. w.reported) works ≡ map Ok all → AreReported engine queues workers all
reported_all {engine} {queues} {workers} {k} {l} {works} {shards} all c all_ok =
    let many : length all ≡ workers = (let b = length-map works (λ w. w.reported) in
    let d = length-map all (λ x. let r : Result (List (List Piece)) EngineFault = Ok x in r) in
    omega (arith, ap length all_ok, b, d, c.atend.long)) in
    let worker : (i : ℕ) → i < workers → HasReportedShards engine queues workers i (Ok (get_or all i [])) = λ i h.
    (let v = work_there i works (omega (arith, h, c.atend.long)) in
    reported_at _ _ _ k l _ _ i v.0 c v.1 _ (all_parts i v.0 works all all_ok v.1)) in
    record {
      long = many;
      wide = λ i h. (worker i h).0;
      each = λ s h. (worker (s % workers) (mod-lt s c.atend.some)).1 s h refl;
    }

-- what is known once the engine is closed
pub all_closed : {engine : Shards} {queues : List (List Numbered)} {workers : ℕ} {k l : Knows} {works after : List Work} {shards : List
    Shard} → 0 < workers → workers ≤ 64 → length queues ≡ length engine.locks
    → AreJobs engine queues workers workers k works → length after ≡ length works
    → ((i : ℕ) (d : Work) → i < length works → HasWorkedOn engine (get_or works i d) (get_or after i d))
    → AllJobsJoined engine 200000 k l after → AreClosed engine l shards
    → ((s : ℕ) → length (slice_index_or queues s []) ≤ engine.limit) → engine.limit ≤ 200000
    → AllClosed engine queues workers k l after shards
all_closed some few long jobs same worked joined closed short small =
    record {
      atend = at_end some few long jobs same worked joined;
      closed = closed;
      queues_long = long;
      short_queues = short;
      small = small;
    }

pub fine_ends : {engine : Shards} {queues : List (List Numbered)} {workers : ℕ} {k l : Knows} {works : List Work} {shards : List
    Shard} {worker_parts : List (Result (List (List Piece)) EngineFault)} → AllClosed engine queues workers k l works shards
    → worker_parts ≡ map (λ w. w.reported) works → (i : ℕ) (end : Result (List (List Piece)) EngineFault)
    → slice_get worker_parts i ≡ Some end → IsFine end
fine_ends c are i end e = (ends c are i e).fine
