-- Passes that are made for the workers, and joined again.
use Rattle.bfd_replay.proofs.WorkerCommon.{◌≡◌, ◌≢◌, ◌<◌, ◌≤◌, ◌+◌, ◌*◌, ◌%◌, ◌++◌, ◌∙◌, ◌∷◌, ℕ, zero, suc, [], List, length, map, sym, ap}
use Rattle.bfd_replay.proofs.WorkerCommon.{refl, append_assoc, append-nil, arith, length-append, Some, slice_get, slice_index_or}
use Rattle.bfd_replay.proofs.WorkerCommon.{map-append, ne_eqb, slice_get_within, same_Some, dite, ℕ_discrete, Shards, Knows, IsOf, AllThere}
use Rattle.bfd_replay.proofs.WorkerCommon.{seen_at, taken_at, kept_at, mine, Parted, Joined, Numbered, Work, AllJobsJoined, AreJobs}
use Rattle.bfd_replay.proofs.WorkerCommon.{JobsAreJoined, AreOwn, IsJoining, number_of, own_queue, IsNewPass}
use Rattle.bfd_turn.proofs.Beginnings.{begins_through}
use Rattle.bfd_engine.proofs.Places.{last_here, front_here}

module _ {A : Type 0} where
  -- what is true of each, with one more
  each_more : (P : ℕ → A → Type 0) (xs ys : List A) {y : A} → ys ≡ xs ++ y ∷ [] → ((i : ℕ) (x : A) → slice_get xs i ≡ Some x → P i x)
      → P (length xs) y
      → (i : ℕ) (x : A) → slice_get ys i ≡ Some x → P i x
  each_more P xs ys {y} is each last i x e = dite (ℕ_discrete i (length xs)) (λ same.
      rw same (rw (← (same_Some y x (cc (last_here xs y (length xs) refl)))) last))
      (λ other. let front : i < length xs = omega (arith, slice_get_within (xs ++ y ∷ []) i x cc, length-append xs (y ∷ []), other) in
      each i x (cc (front_here xs y i front)))

  none_here : (i : ℕ) {x : A} → slice_get [] i ≡ Some x → ⊥
  none_here zero e = cc
  none_here (suc i) e = cc

  -- the next of those that are left stands behind those that were given
  pub next_here : (xs ys : List A) {zs : List A} (x : A) → xs ++ x ∷ ys ≡ zs → slice_get zs (length xs) ≡ Some x
  next_here [] ys x e = cc
  next_here (w ∷ xs) ys {zs} x e = cc (next_here xs ys {zs = xs ++ x ∷ ys} x refl)

pub jobs_none : {engine : Shards} (queues : List (List Numbered)) (workers : ℕ) {l : Knows} {works : List Work} → IsNewPass engine l
    → works ≡ [] → AreJobs engine queues workers 0 l works
jobs_none queues workers new none = record {
  of = new.of;
  there = new.there;
  number = new.number;
  used = new.used;
  long = cc;
  fresh = λ s h. record { seen = new.seen s h; taken = new.taken s h; kept = new.kept s h; made = cc (new.made s h) };
  each = λ i w e. absurd (none_here i (ap (λ ws. slice_get ws i) (sym none) ∙ e));
}

pub jobs_more : (engine : Shards) (queues : List (List Numbered)) (workers at : ℕ) (l m : Knows) (works works2 : List Work) (w : Work)
    → AreJobs engine queues workers at l works
    → works2 ≡ works ++ w ∷ [] → IsOf engine m.1 → AllThere m.1 → m.0 ≡ 0 → m.2 ≡ l.2 + 1 → w.pass.0 ≡ l.2 + 1 → IsOf engine w.pass.1
    → AllThere w.pass.1
    → ((s : ℕ) → s < length engine.locks → Parted l m w.pass s) → AreOwn workers at queues w.queues
    → AreJobs engine queues workers (at + 1) m works2
jobs_more engine queues workers at l m works works2 w j is of there zero_is used number of_new there_new parted own = record {
  of = of;
  there = there;
  number = zero_is;
  used = cc;
  long = cc (length-append works (w ∷ []));
  fresh = λ s h. let p = parted s h in let f = j.fresh s h in record {
    seen = cc;
    taken = cc;
    kept = cc;
    made = cc (map-append number_of works (w ∷ []));
  };
  each = each_more _ works _ is j.each (record {
    of = of_new;
    there = there_new;
    number = cc;
    idle = λ s h. record { seen = (parted s h).seen_new ∙ (j.fresh s h).seen; taken = (parted s h).taken_new };
    own = rw j.long own;
  });
}

-- passes that are joined

pub joined_none : {engine : Shards} (most : ℕ) (k : Knows) → IsOf engine k.1 → AllThere k.1 → k.0 ≡ 0 → AllJobsJoined engine most k k []
joined_none most k of there zero_is = record {
  of = of;
  there = there;
  number = zero_is;
  each = λ s h. record {
    own = refl;
    kept = sym (append-nil (kept_at k s));
    made = refl;
    begins = λ i w e. absurd (none_here i e);
    words = λ i w e. absurd (none_here i e);
    few = grind arith;
  };
}

times_more : (most n : ℕ) → most * (n + 1) ≡ most * n + most
times_more most n = grind arith

one_joined : {most : ℕ} {k l m : Knows} {works : List Work} (w : Work) {s : ℕ} → JobsAreJoined most k l works s → Joined l w.pass m s
    → taken_at w.pass s ≤ most → JobsAreJoined most k m (works ++ w ∷ []) s
one_joined {most} {k} {l} {m} {works} w {s} j t few = record {
  own = cc;
  kept = t.kept ∙ (ap (λ xs. xs ++ (w.pass.0, mine w.pass s) ∷ []) j.kept
      ∙ (append_assoc (kept_at k s) (map (λ x. (x.pass.0, mine x.pass s)) works) ((w.pass.0, mine w.pass s) ∷ [])
      ∙ ap (λ xs. kept_at k s ++ xs) (sym (map-append (λ x. (x.pass.0, mine x.pass s)) works (w ∷ [])))));
  made = cc;
  begins = each_more _ works (works ++ w ∷ []) refl (λ i x e. begins_through (seen_at x.pass s) _ _ (j.begins i x e) t.first) t.other;
  words = each_more _ works (works ++ w ∷ []) refl (λ i x e. omega (arith, j.words i x e, t.word)) t.word_other;
  few = (let q = ap (λ x. most * x) (length-append works (w ∷ [])) in
      omega (arith, j.few, t.taken, few, times_more most (length works), q));
}

pub joined_more : {engine : Shards} {most : ℕ} {k l m : Knows} {works : List Work} {w : Work} → AllJobsJoined engine most k l works
    → IsJoining engine most w
    → IsOf engine m.1 → AllThere m.1 → m.0 ≡ 0 → ((s : ℕ) → s < length engine.locks → Joined l w.pass m s)
    → AllJobsJoined engine most k m (works ++ w ∷ [])
joined_more {w} j is of there zero_is joined = record {
  of = of;
  there = there;
  number = zero_is;
  each = λ s h. one_joined w (j.each s h) (joined s h) (is.few s h);
}

-- another worker has none of this shard
pub own_away : (workers at s : ℕ) (queue : List Numbered) → s % workers ≢ at → own_queue workers at s queue ≡ []
own_away workers at s queue h = rw (ne_eqb (s % workers) at h) refl

-- a worker's own queues of those that were left, which are those of the start where they are its own
pub own_of_left : (workers at : ℕ) (all left own : List (List Numbered)) → length left ≡ length all
    → ((s : ℕ) → s % workers ≡ at → slice_index_or left s [] ≡ slice_index_or all s [])
    → AreOwn workers at left own → AreOwn workers at all own
own_of_left workers at all left own long same are = record {
  long = cc;
  each = λ s h. are.each s (omega (arith, h, long)) ∙ dite (ℕ_discrete (s % workers) at) (λ e. cc (same s e))
      (λ other. own_away workers at s (slice_index_or left s []) other ∙ sym (own_away workers at s (slice_index_or all s []) other));
}
