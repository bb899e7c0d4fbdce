-- From what each caller did to what all did.
use Rattle.bfd_serve.proofs.Common.{◌≡◌, zero, suc, ◌+◌, ◌*◌, ◌<◌, ◌≤◌, ◌++◌, length, map, Some, slice_get, get_or, slice_index_or, refl}
use Rattle.bfd_serve.proofs.Common.{ap, sym, ◌∙◌, subst, length-append, arith, All, sum, All-get_or, length-map, get_or-map, get_or_default}
use Rattle.bfd_serve.proofs.Common.{same_lists, get_or_append_left, sum_by-le, dite, dec_lt, Arrival, Datagram, Entry, Line, Begins, calls}
use Rattle.bfd_serve.proofs.Common.{begins_length, risen, LinkObserved, TickerObserved, by, Shards, Knows, IsOf, Act, seen_of, met_word_of}
use Rattle.bfd_serve.proofs.Common.{seen_at}
use Rattle.bfd_serve.proofs.Common.{met_word, taken_at, kept_at, mine, End, Full, Spent, worker_acts, Did, IsWorkerEnd, HasWorked}
use Rattle.bfd_serve.proofs.Common.{IsTimerEnd, HasTimed, is_clock_fault, pass_of, link_of, end_of_job, lost_of, IsOpen, IsReady, IsWorked}
use Rattle.bfd_serve.proofs.Common.{number_of, numbers, IsOther, IsFresh, HasSplit, calls_kept, AreJoined, ℕ, List, [], ◌∷◌, Job, HasDone}
use Rattle.bfd_serve.proofs.Common.{WorkerDid, TimerDid, IsTended, IsServedBy, HasServed}
use Rattle.std.proofs.lemmas.Option.{slice_get_past}
use Rattle.std.proofs.Math.Seq.{get_or-append_seam}
use Rattle.bfd_serve.proofs.Histories.{weight, sends_base}
use Rattle.bfd_serve.proofs.Doing.{sends_later, stops_grow}
use Rattle.bfd_serve.proofs.Weights.{timer_weight, arrivals_weight}
use Rattle.bfd_serve.proofs.Turning.{acts_append}
use Rattle.bfd_serve.proofs.Splits.{kept_numbers, kept_length}

-- a number below another, or not
by_shard : (P : ℕ → Type 0) {s n : ℕ} → (s < n → P s) → (n ≤ s → P s) → P s
by_shard P {s} {n} inside beyond = dite (dec_lt s n) inside (λ far. beyond (omega (arith, far)))

module _ (engine : Shards) where
  -- beyond the last shard nothing is seen
  seen_beyond : (k : Knows) (s : ℕ) → IsOf engine k.1 → length engine.locks ≤ s → seen_at k s ≡ []
  seen_beyond k s of h = ap seen_of (slice_get_past k.1 s (omega arith))

  word_beyond : (k : Knows) {s : ℕ} → IsOf engine k.1 → length engine.locks ≤ s → met_word k s ≡ 0
  word_beyond k {s} of h = ap met_word_of (slice_get_past k.1 s (omega arith))

  none_seen : (k : Knows) → IsOf engine k.1 → ((s : ℕ) → s < length engine.locks → seen_at k s ≡ []) → (s : ℕ) → seen_at k s ≡ []
  none_seen k of each s = by_shard (λ i. seen_at k i ≡ []) (each s) (seen_beyond k s of)

  begins_everywhere : (k l : Knows) → IsOf engine k.1 → ((s : ℕ) → s < length engine.locks → Begins (seen_at k s) (seen_at l s)) → (s : ℕ)
      → Begins (seen_at k s) (seen_at l s)
  begins_everywhere k l of each s = by_shard (λ i. Begins (seen_at k i) (seen_at l i)) (each s)
      (λ far. rw (seen_beyond k s of far) (seen_at l s, refl))

  words_everywhere : (k l : Knows) → IsOf engine k.1 → ((s : ℕ) → s < length engine.locks → met_word k s ≤ met_word l s) → (s : ℕ)
      → met_word k s ≤ met_word l s
  words_everywhere k l of each s = by_shard (λ i. met_word k i ≤ met_word l i) (each s) (λ far. omega (arith, word_beyond k of far))

  -- what a caller did that had seen nothing, by the histories in the end
  done_of : {k o : Knows} (m : Knows) {n : ℕ} {t u : LinkObserved} {heard : List (ℕ × Arrival)} {done cut : List Act} {untried : List
      Datagram} {lost : ℕ} → Did engine k o t u heard done cut untried 0 lost → k.0 ≡ n
      → ((s : ℕ) → seen_at k s ≡ []) → ((s : ℕ) → Begins (seen_at o s) (seen_at m s))
      → HasDone engine n (mine o) (seen_at m) t u heard done untried lost
  done_of {k} {o} m {t} {u} {heard} {done} {cut} {untried} {lost} d num none grows = record {
    gains = λ s. cc (d.gains s, none s);
    tried = d.tried;
    kept = d.kept;
    missing = d.missing;
    sends_are = cc (
      sends_base engine k.0 (seen_at m) (λ s. length (mine k s)) (λ s. 0) [] [] done
          (λ s. let a = ap (λ h. length (calls by k.0 h)) (none s) in omega arith),
      sends_later engine k o t u heard done cut untried 0 lost grows d,
    );
    lacks = d.lacks;
    same_link = d.same_link;
    traffic = d.traffic;
    send_faults = d.send_faults;
    lost_is = d.lost_is;
  }

  worker_end_grows : (h h2 : ℕ → List Entry) {w w2 : ℕ → ℕ} (t u : LinkObserved) (turned turns : ℕ) (cut : List Act)
      (untried : List Datagram)
      (end : End) → ((s : ℕ) → length (h s) ≤ length (h2 s)) → ((s : ℕ) → w s ≤ w2 s)
      → IsWorkerEnd engine h w t u turned turns cut untried end → IsWorkerEnd engine h2 w2 t u turned turns cut untried end
  worker_end_grows h h2 t u turned turns cut untried (Full shard n) longer more i =
      (i.0, i.1, stops_grow engine h h2 cut untried (Full shard n) longer more i.2)
  worker_end_grows h h2 t u turned turns cut untried (Spent shard word) longer more i =
      (i.0, i.1, stops_grow engine h h2 cut untried (Spent shard word) longer more i.2)
  worker_end_grows h h2 t u turned turns cut untried end longer more i = i

  timer_end_grows : (h h2 : ℕ → List Entry) {w w2 : ℕ → ℕ} (c d : TickerObserved) (got : List ℕ) (ticks : ℕ) (cut : List Act)
      (untried : List Datagram) (end : End) → ((s : ℕ) → length (h s) ≤ length (h2 s)) → ((s : ℕ) → w s ≤ w2 s)
      → IsTimerEnd engine h w c d got ticks cut untried end → IsTimerEnd engine h2 w2 c d got ticks cut untried end
  timer_end_grows h h2 c d got ticks cut untried (Full shard n) longer more i =
      (i.0, stops_grow engine h h2 cut untried (Full shard n) longer more i.1)
  timer_end_grows h h2 c d got ticks cut untried (Spent shard word) longer more i =
      (i.0, stops_grow engine h h2 cut untried (Spent shard word) longer more i.1)
  timer_end_grows h h2 c d got ticks cut untried end longer more i = i

  worker_did : {k o : Knows} (m : Knows) {n : ℕ} {t u : LinkObserved} {turns : ℕ} {end : End} {lost : ℕ}
      → HasWorked engine k o t u turns end lost → k.0 ≡ n → ((s : ℕ) → seen_at k s ≡ [])
      → ((s : ℕ) → Begins (seen_at o s) (seen_at m s)) → ((s : ℕ) → met_word o s ≤ met_word m s)
      → WorkerDid engine n (mine o) (seen_at m) (met_word m) t u turns end lost
  worker_did {o} m {t} {u} {turns} {end} w num none grows words = record {
    done = w.done;
    cut = w.cut;
    untried = w.untried;
    did = done_of m w.did num none grows;
    ends = worker_end_grows (seen_at o) (seen_at m) t u w.turned turns (worker_acts engine w.cut) w.untried end
        (λ s. begins_length (seen_at o s) _ (grows s)) words w.ends;
    turned = w.turned;
    gave = w.gave;
    each = w.each;
    few = w.few;
  }

  timer_did : {k o : Knows} (m : Knows) {t u : LinkObserved} {c d : TickerObserved} {orders : List Line} {ticks : ℕ} {end : End} {lost : ℕ}
      → HasTimed engine k o t u c d orders ticks end lost → k.0 ≡ 0 → ((s : ℕ) → seen_at k s ≡ [])
      → ((s : ℕ) → Begins (seen_at o s) (seen_at m s)) → ((s : ℕ) → met_word o s ≤ met_word m s)
      → TimerDid engine (mine o) (seen_at m) (met_word m) t u c d orders ticks end lost
  timer_did {o} m {c} {d} {ticks} {end} w num none grows words = record {
    got = w.got;
    done = w.done;
    cut = w.cut;
    untried = w.untried;
    all = w.all;
    did = done_of m w.did num none grows;
    aside = w.aside;
    given = w.given;
    gave = w.gave;
    few = w.few;
    ends = timer_end_grows (seen_at o) (seen_at m) c d w.got ticks w.cut w.untried end (λ s. begins_length (seen_at o s) _ (grows s)) words
        w.ends;
  }

numbers_long : (n : ℕ) → length (numbers n) ≡ n
numbers_long zero = refl
numbers_long (suc n) = length-append (numbers n) (suc n ∷ []) ∙ (omega (arith, numbers_long n))

numbers_get : (n i d : ℕ) → i < n → get_or (numbers n) i d ≡ i + 1
numbers_get zero i d h = absurd (omega arith)
numbers_get (suc n) i d h = dite (dec_lt i n) (λ less. get_or_append_left (numbers n) (suc n ∷ []) d i (omega (arith, numbers_long n))
    ∙ numbers_get n i d less)
    (λ last. let is : i ≡ length (numbers n) = omega (arith, last, numbers_long n) in
    ap (λ j. get_or (numbers n ++ suc n ∷ []) j d) is ∙ (get_or-append_seam (numbers n) (suc n) [] d ∙ (omega (arith, numbers_long n))))

calls_kept_get : (s : ℕ) (os : List Knows) (i : ℕ) (d : Knows) → i < length os
    → slice_get (calls_kept s os) i ≡ Some ((get_or os i d).0, mine (get_or os i d) s)
calls_kept_get s [] i d h = absurd (omega arith)
calls_kept_get s (o ∷ os) zero d h = refl
calls_kept_get s (o ∷ os) (suc i) d h = calls_kept_get s os i d (omega arith)

-- some element, for a default
pick : {X : Type 0} (xs : List X) {i : ℕ} → i < length xs → X
pick [] h = absurd (omega arith)
pick (x ∷ xs) h = x

-- the jobs before the work
pub all_ready : {L : Type 0} (observed : L → LinkObserved) {engine : Shards} (jobs : List (Job L)) → All (IsFresh engine) (map pass_of jobs)
    → All (IsOpen observed) (map link_of jobs) → All (IsReady observed engine) jobs
all_ready observed {engine} jobs news opens i j h =
    let p = subst (IsFresh engine) (get_or-map pass_of jobs i j j.pass h)
    (All-get_or (IsFresh engine) (map pass_of jobs) i j.pass (omega (arith, length-map jobs pass_of)) news) in
    record {
      of = p.other.of;
      there = p.other.there;
      open_is = subst (IsOpen observed) (get_or-map link_of jobs i j j.link h)
          (All-get_or (IsOpen observed) (map link_of jobs) i j.link (omega (arith, length-map jobs link_of)) opens);
    }

module _ {L : Type 0} (observed : L → LinkObserved) (engine : Shards) (k : Knows) (turns : ℕ) (before after : List (Job L)) (n : ℕ)
    (split : HasSplit engine k (map pass_of before) n)
    (long : length after ≡ length before)
    (each : (i : ℕ) (j : Job L) → i < length before → IsWorked observed engine turns (slice_index_or before i j) (slice_index_or after i j))
  where
    count_is : length before ≡ n
    count_is = cc (length-map before pass_of)

    fresh_at : {i : ℕ} (j : Job L) → i < length before → IsFresh engine (get_or before i j).pass
    fresh_at {i} j h = subst (IsFresh engine) (get_or-map pass_of before i j j.pass h)
        (All-get_or (IsFresh engine) (map pass_of before) i j.pass (omega (arith, length-map before pass_of)) split.each)

    number_before : {i : ℕ} (j : Job L) → i < length before → (get_or before i j).pass.0 ≡ i + 1
    number_before {i} j h =
        let a = length-map before pass_of in
        cc (
          get_or-map number_of (map pass_of before) i j.pass j.pass.0 (omega arith),
          get_or-map pass_of before i j j.pass h,
          numbers_get n i j.pass.0 (omega (arith, count_is)),
        )

    number_after : {i : ℕ} (j : Job L) → i < length before → (get_or after i j).pass.0 ≡ i + 1
    number_after {i} j h = (each i j h).worked.did.number ∙ number_before j h

    pass_after : {i : ℕ} (j : Job L) → i < length before → get_or (map pass_of after) i j.pass ≡ (get_or after i j).pass
    pass_after {i} j h = get_or-map pass_of after i j j.pass (omega (arith, long))

    numbers_after : map number_of (map pass_of after) ≡ numbers n
    numbers_after = same_lists (map number_of (map pass_of after)) (numbers n)
        (cc (length-map (map pass_of after) number_of, length-map after pass_of, count_is, numbers_long n)) (λ i x h.
        let less : i < length before = omega (arith, long, length-map (map pass_of after) number_of, length-map after pass_of) in
        let j : Job L = pick before less in
        cc (
          get_or_default (map number_of (map pass_of after)) i x j.pass.0 h,
          get_or-map number_of (map pass_of after) i j.pass j.pass.0 (omega (arith, long, length-map after pass_of)),
          pass_after j less,
          number_after j less,
          numbers_get n i x (omega (arith, count_is)),
        ))

    pub others_after : All (IsOther engine) (map pass_of after)
    others_after i o h =
        let less : i < length before = omega (arith, long, length-map after pass_of) in
        let j : Job L = pick before less in
        let w = each i j less in
        subst (IsOther engine) (sym (get_or_default (map pass_of after) i o j.pass h ∙ pass_after j less))
        (record { of = w.of; there = w.there; number = λ z. absurd (omega (arith, z, number_after j less)) })

    module _ (l m : Knows) (t u : LinkObserved) (c d : TickerObserved) (orders : List Line) (ticks : ℕ) (end : End) (lost : ℕ)
        (tended : IsTended engine k l t u c d orders ticks end lost)
        (joined : (s : ℕ) → s < length engine.locks → AreJoined l (map pass_of after) m s) where
      grows_to : {i : ℕ} (j : Job L) → i < length before → (s : ℕ) → Begins (seen_at (get_or after i j).pass s) (seen_at m s)
      grows_to {i} j h = begins_everywhere engine (get_or after i j).pass m (each i j h).of
          (λ s less. rw (← pass_after j h) (All-get_or (λ o. Begins (seen_at o s) (seen_at m s)) (map pass_of after) i j.pass
          (omega (arith, long, length-map after pass_of)) (joined s less).each))

      words_to : {i : ℕ} (j : Job L) → i < length before → (s : ℕ) → met_word (get_or after i j).pass s ≤ met_word m s
      words_to {i} j h = words_everywhere engine (get_or after i j).pass m (each i j h).of
          (λ s less. rw (← pass_after j h) (All-get_or (λ o.
          met_word o s ≤ met_word m s) (map pass_of after) i j.pass (omega (arith, long, length-map after pass_of)) (joined s less).words))

      kept_is : {s : ℕ} → s < length engine.locks → kept_at m s ≡ calls_kept s (map pass_of after)
      kept_is {s} h = cc ((joined s h).kept, tended.timed.did.keeps s, split.kept s h)

      worker_at : {i : ℕ} (j : Job L) → i < length before
          → IsServedBy observed engine m turns i (get_or before i j).link (get_or after i j).link (get_or after i j).end
          (get_or after i j).lost
      worker_at {i} j h = record {
        own = mine (get_or after i j).pass;
        kept = λ s less. cc (
          kept_is less,
          calls_kept_get s (map pass_of after) i j.pass (omega (arith, long, length-map after pass_of)),
          pass_after j h,
          number_after j h,
        );
        worked = worker_did engine m
            (each i j h).worked (number_before j h) (none_seen engine (get_or before i j).pass (fresh_at j h).other.of (fresh_at j h).seen)
            (grows_to j h) (words_to j h);
      }

      taken_by : {s : ℕ} → s < length engine.locks → (i : ℕ) (o : Knows) → i < length (map pass_of after)
          → taken_at (get_or (map pass_of after) i o) s ≤ turns
      taken_by {s} h i o inside =
          let less : i < length before = omega (arith, long, length-map after pass_of) in
          let j : Job L = pick before less in
          let w = (each i j less).worked in
          let a = w.did.taken s in let b = (fresh_at j less).taken s h in let f = w.few in
          let x = ap (weight (get_or before i j).pass.0 s) (acts_append engine w.done w.cut) in let y =
          arrivals_weight (get_or before i j).pass.0 s engine (w.done ++ w.cut) in
          rw (get_or_default (map pass_of after) i o j.pass inside ∙ pass_after j less) (omega arith)

      taken_all : {s : ℕ} → s < length engine.locks → taken_at m s ≤ (ticks + length orders) + length before * turns
      taken_all {s} h =
          let a = (joined s h).taken in
          let sum_is = sum_by-le (λ o. taken_at o s) turns (map pass_of after) (taken_by h) in
          let len : length (map pass_of after) * turns ≡ length before * turns = cc (length-map after pass_of) in
          omega (
            arith,
            tended.timed.did.taken s,
            split.taken s h,
            ap (weight k.0 s) tended.timed.all,
            timer_weight k.0 s engine orders tended.timed.got (is_clock_fault end),
            tended.timed.few,
          )

      worker_of : (i : ℕ) (x : L) (y : End) (z : ℕ) → i < length before
          → IsServedBy observed engine m turns i (get_or (map link_of before) i x) (get_or (map link_of after) i x)
          (get_or (map end_of_job after) i y) (get_or (map lost_of after) i z)
      worker_of i x y z h =
          let j : Job L = record { pass = (0, [], 0); link = x; end = y; lost = z } in
          let inside : i < length after = omega (arith, long) in
          subst (λ (w : L × L × End × ℕ). IsServedBy observed engine m turns i w.0 w.1 w.2 w.3)
          (λ r. (
            sym (get_or-map link_of before i j x h) r,
            sym (get_or-map link_of after i j x inside) r,
            sym (get_or-map end_of_job after i j y inside) r,
            sym (get_or-map lost_of after i j z inside) r,
          )) (worker_at j h)

      timer_lost_is : lost ≡ risen 0 lost
      timer_lost_is = omega arith

      pub served : HasServed observed engine m t u c d orders (record { turns = turns; ticks = ticks }) (map link_of before)
          (map link_of after)
          (end ∷ map end_of_job after) (risen lost (sum (map lost_of after)))
      served = record {
        own = mine l;
        own_is = λ s h. (joined s h).own;
        timer_end = end;
        timer_lost = lost;
        timed = timer_did engine m tended.timed split.number (none_seen engine k split.of split.seen)
            (begins_everywhere engine l m tended.of (λ s h. (joined s h).first))
            (words_everywhere engine l m tended.of (λ s h. (joined s h).word));
        worker_ends = map end_of_job after;
        worker_losts = map lost_of after;
        ends_are = refl;
        lost_is = omega (arith, timer_lost_is);
        back_long = cc (length-map after link_of, length-map before link_of);
        ends_long = cc (length-map after end_of_job, length-map before link_of);
        losts_long = cc (length-map after lost_of, length-map before link_of);
        kept_long = λ s h. cc (kept_is h, kept_length engine s (map pass_of after), length-map after pass_of, length-map before link_of);
        made = λ s h. cc (
          (joined s h).made,
          tended.timed.did.made s,
          split.made s h,
          numbers_after,
          kept_numbers engine s (map pass_of after),
          kept_is h,
        );
        workers = λ i x y z h. worker_of i x y z (omega (arith, length-map before link_of));
        taken = λ s h. (let b = ap (λ v. v * turns) (length-map before link_of) in omega (arith, taken_all h));
      }
