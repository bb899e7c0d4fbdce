-- What the first fault shows.
use Rattle.bfd_serve.proofs.RunCommon.{◌≡◌, ◌≢◌, ◌⊎◌, ℕ, zero, suc, ◌+◌, ◌<◌, ◌≤◌, ◌==◌, true, false, List, [], ◌∷◌, ◌++◌, length, get_or}
use Rattle.bfd_serve.proofs.RunCommon.{refl, ap, sym, ◌∙◌, inl, inr, arith, All, All-head, All-tail, nat_tests, slice_get_past, dite}
use Rattle.bfd_serve.proofs.RunCommon.{ℕ_discrete, dec_lt, Shard, Line, LinkObserved, IsNewLink, TickerObserved, Shards, calls, by, Act}
use Rattle.bfd_serve.proofs.RunCommon.{End}
use Rattle.bfd_serve.proofs.RunCommon.{Limits, worker_acts, IsTimerEnd, is_clock_fault, finish_by, finish_from, HadMemory, calls_on}
use Rattle.bfd_serve.proofs.RunCommon.{journal_in, history_at, no_words, HaveRun, AreClosedShards, IsWorkerEnd, StartsOn, timer_acts}
use Rattle.bfd_serve.proofs.RunCommon.{Finish}
use Rattle.bfd_edge.specs.Faults.{risen}
use Rattle.bfd_engine.specs.Calls.{Turns as TurnsOn}
use Rattle.bfd_serve.specs.declared.ending.End.TheVariants as end
use Rattle.bfd_serve.proofs.Histories.{weight_append}
use Rattle.bfd_serve.proofs.Turning.{acts_append}
use Rattle.bfd_serve.specs.declared.run.finish.Finish.TheVariants.{Done, LinkFault, ClockFault, JournalFull, Turns}
use Rattle.bfd_serve.specs.Causes.{IsRunDone, IsAll, IsOverfull, IsFinishCause, Completes}
use Rattle.bfd_serve.proofs.Counts.{all_counted, bonus, bonus_some, gather}
use Rattle.bfd_serve.proofs.Closings.{there_is}

-- the first caller that has not ended well, if there is one
abbrev pub AllEnded : List End → Type 0
AllEnded ends = (j : ℕ) → j < length ends → get_or ends j end.Ended ≡ end.Ended

pub record Blamed (i : ℕ) (ends : List End) (finish : Finish) : Type 0 where
  pub at : ℕ
  pub inside : at < length ends
  pub other : get_or ends at end.Ended ≢ end.Ended
  pub before : (j : ℕ) → j < at → get_or ends j end.Ended ≡ end.Ended
  pub finish_is : finish ≡ finish_by (i + at) (get_or ends at end.Ended) Done

blame_now : (i : ℕ) (x : End) (xs : List End) (finish : Finish) → x ≢ end.Ended → finish ≡ finish_by i x Done → Blamed i (x ∷ xs) finish
blame_now i x xs finish other is = record {
  at = 0;
  inside = omega arith;
  other = other;
  before = λ j h. absurd (omega (arith, h));
  finish_is = is ∙ (let e : i ≡ i + 0 = omega arith in ap (λ n. finish_by n x Done) e);
}

before_later : (xs : List End) {n : ℕ} → ((j : ℕ) → j < n → get_or xs j end.Ended ≡ end.Ended) → (j : ℕ) → j < suc n
    → get_or (end.Ended ∷ xs) j end.Ended ≡ end.Ended
before_later xs f zero h = refl
before_later xs f (suc j) h = f j (omega arith)

ended_more : (xs : List End) → AllEnded xs → AllEnded (end.Ended ∷ xs)
ended_more xs f zero h = refl
ended_more xs f (suc j) h = f j (omega arith)

blame_later : (i : ℕ) {xs : List End} {finish : Finish} → Blamed (i + 1) xs finish → Blamed i (end.Ended ∷ xs) finish
blame_later i {xs} b = record {
  at = suc b.at;
  inside = omega (arith, b.inside);
  other = b.other;
  before = before_later xs b.before;
  finish_is = b.finish_is ∙ (let e : i + 1 + b.at ≡ i + suc b.at = omega arith in ap (λ n. finish_by n (get_or xs b.at end.Ended) Done) e);
}

blame_end : (i : ℕ) {xs : List End} → (AllEnded xs × (finish_from (i + 1) xs ≡ Done)) ⊎ Blamed (i + 1) xs (finish_from (i + 1) xs)
    → (AllEnded (end.Ended ∷ xs) × (finish_from (i + 1) xs ≡ Done)) ⊎ Blamed i (end.Ended ∷ xs) (finish_from (i + 1) xs)
blame_end i {xs} (inl (all, is)) = inl (ended_more xs all, is)
blame_end i (inr b) = inr (blame_later i b)

blame : (i : ℕ) (ends : List End) → All HadMemory ends → (AllEnded ends × (finish_from i ends ≡ Done)) ⊎ Blamed i ends (finish_from i ends)
blame i [] plain = inl ((λ j h. absurd (omega (arith, h))), refl)
blame i (end.LinkFault ∷ xs) plain = inr (blame_now i end.LinkFault xs (LinkFault i) (λ e. absurd (cc e)) refl)
blame i (end.ClockFault ∷ xs) plain = inr (blame_now i end.ClockFault xs ClockFault (λ e. absurd (cc e)) refl)
blame i (end.Full s n ∷ xs) plain = inr (blame_now i (end.Full s n) xs (JournalFull s) (λ e. absurd (cc e)) refl)
blame i (end.Turns n ∷ xs) plain = inr (blame_now i (end.Turns n) xs (Turns i) (λ e. absurd (cc e)) refl)
blame i (end.Spent s n ∷ xs) plain = absurd (All-head HadMemory (end.Spent s n) xs plain)
blame i (end.Memory ∷ xs) plain = absurd (All-head HadMemory end.Memory xs plain)
blame i (end.Ended ∷ xs) plain = blame_end i (blame (i + 1) xs (All-tail HadMemory end.Ended xs plain))

begins_one : (n : ℕ) {s : ℕ} {cut : List Act} → StartsOn s cut → 1 ≤ calls_on n s cut
begins_one n {s} b =
    let one : calls_on n s (TurnsOn s b.0 ∷ []) ≡ 1 = (let t : (s == s) ≡ true = grind (arith, nat_tests) in rw t refl) in
    rw b.2 (omega (arith, weight_append n s (TurnsOn s b.0 ∷ []) b.1, one))

-- where this caller is to blame, what it left out has a call
bonus_of : (at n m s : ℕ) (cut : List Act) → (n ≡ at → StartsOn s cut) → bonus at n ≤ calls_on m s cut
bonus_of at n m s cut f = dite (ℕ_discrete n at) (λ is. let e : (n == at) ≡ true = grind (arith, nat_tests, is) in
    rw e (begins_one m (f is)))
    (λ other. let e : (n == at) ≡ false = grind (arith, nat_tests, other) in rw e (omega arith))

module _ (engine : Shards) (states : List Shard) (orders : List Line) (workers : ℕ) (limits : Limits) (before after : ℕ → LinkObserved)
    (c d : TickerObserved) (ends : List End) (lost : ℕ)
    (run : HaveRun engine (history_at states) orders workers limits before after c d ends lost)
    (new : (n : ℕ) → n ≤ workers → IsNewLink (before n)) (turns_few : limits.turns ≤ 1000000000)
    (journal : ℕ) (limit_is : engine.limit ≡ journal) (some : 0 < journal) (closed : AreClosedShards engine states) where
  ends_count : length ends ≡ workers + 1
  ends_count = omega (arith, ap length run.ends_are, run.ends_long)

  timer_is : {x : End} → get_or ends 0 end.Ended ≡ x
      → IsTimerEnd engine (history_at states) no_words c d run.timer.did.got limits.ticks run.timer.did.cut run.timer.did.untried x
  timer_is is = rw (← sym (ap (λ z. get_or z 0 end.Ended) run.ends_are) ∙ is) run.timer.did.ends

  module _ (at : ℕ) (less : at < workers) where
    worker_is : (x : End) → get_or ends (suc at) end.Ended ≡ x
        → IsWorkerEnd engine (history_at states) no_words (before (at + 1)) (after (at + 1)) (run.each at less).did.turned limits.turns
        (worker_acts engine (run.each at less).did.cut) (run.each at less).did.untried x
    worker_is x is = rw (← sym (ap (λ z. get_or z (suc at) end.Ended) run.ends_are) ∙ is) (run.each at less).did.ends

    no_faults : (before (at + 1)).counts.receive_faults ≡ 0
    no_faults = cc ((new (at + 1) (omega (arith, less))).counts)

    gave_none : (before (at + 1)).counts.gave ≡ 0
    gave_none = cc ((new (at + 1) (omega (arith, less))).counts)

  full_at : (s : ℕ) {n : ℕ} → n ≤ length (history_at states s) → n ≡ engine.limit → (s < length engine.locks)
      × (length (history_at states s) ≡ journal) × (n ≡ journal)
  full_at s long is = dite (dec_lt s (length states))
      (λ less. let x = there_is states s less in let a = closed.each s x.0 x.1 in let e = ap (λ o. length (journal_in o)) x.1 in
      ((omega (arith, less, closed.long)), omega (arith, long, is, a.kept.full, a.limit, e, limit_is), cc))
      (λ far. let e = ap (λ o. length (journal_in o)) (slice_get_past states s (omega (arith, far))) in
      absurd (omega (arith, e, long, is, limit_is, some)))

  module _ (at s n : ℕ) (blamed : get_or ends at end.Ended ≡ end.Full s n) (within : at < workers + 1)
      (first : (j : ℕ) → j < at → get_or ends j end.Ended ≡ end.Ended) (here : s < length engine.locks) where
    no_clock : (k : ℕ) → at ≡ k → is_clock_fault run.timer_end ≡ false
    no_clock zero is = cc
    no_clock (suc k) is = cc (first 0 (omega (arith, is)))

    timer_counts : length (calls by 0 (history_at states s)) + bonus at 0 ≤ calls_on 0 s
        (timer_acts engine orders run.timer.did.got (is_clock_fault run.timer_end))
    timer_counts =
        let t = run.timer.did in
        let g = bonus_of at 0 0 s t.cut (λ is. (timer_is (ap (λ i. get_or ends i end.Ended) is ∙ blamed)).1.2) in
        omega (arith, ap length (run.timer.own_is s here ∙ t.did.gains s), ap (calls_on 0 s) t.all, weight_append 0 s t.done t.cut, g)

    worker_counts : (i : ℕ) → i < workers → (a : List Act)
        × (length (calls by (i + 1) (history_at states s)) + bonus at (suc i) ≤ calls_on (i + 1) s a)
        × IsAll engine (history_at states) orders workers limits before after c d ends lost run i a
    worker_counts i less =
        let r = run.each i less in let w = r.did in
        let g = bonus_of at (suc i) (i + 1) s (worker_acts engine w.cut)
        (λ is. (worker_is i less (end.Full s n) (ap (λ j. get_or ends j end.Ended) is ∙ blamed)).2.2) in (
          worker_acts engine (w.done ++ w.cut),
          omega (
            arith,
            ap length (r.own_is s here ∙ w.did.gains s),
            ap (calls_on (i + 1) s) (acts_append engine w.done w.cut),
            weight_append (i + 1) s (worker_acts engine w.done) (worker_acts engine w.cut),
            g,
          ),
          (less, refl),
        )

    is_over : journal ≤ length (history_at states s)
        → IsOverfull engine (history_at states) orders workers limits before after c d ends lost run journal s
    is_over full =
        let g = gather s (history_at states s) at (IsAll engine (history_at states) orders workers limits before after c d ends lost run)
        workers worker_counts in
        let all = all_counted workers (history_at states s) (λ m far. run.others m s here far) in
        let f = ap (λ z. calls_on 0 s (timer_acts engine orders run.timer.did.got z)) (no_clock at refl) in
        record {
          acts = g.0;
          long = g.1;
          each = g.2;
          over = omega (arith, g.3, all, bonus_some at workers (omega (arith, within)), timer_counts, f, full);
        }

  by_blame : (at : ℕ) (x : End) → at < workers + 1 → get_or ends at end.Ended ≡ x → x ≢ end.Ended
      → ((j : ℕ) → j < at → get_or ends j end.Ended ≡ end.Ended) → HadMemory x
      → IsFinishCause engine (history_at states) orders workers limits before after c d ends lost run journal (finish_by at x Done)
  by_blame at end.Ended inner is other first plain = absurd (other refl)
  by_blame zero (end.Full s n) inner is other first plain =
      let w = (timer_is is).1 in let f = full_at s w.1 w.3 in record {
        inside = f.0;
        full = f.1;
        caller = 0;
        first = first;
        end = cc;
        lacks = w.2;
        over = is_over zero s n is inner first f.0 (omega (arith, f.1));
      }
  by_blame (suc i) (end.Full s n) inner is other first plain =
      let less : i < workers = omega (arith, inner) in
      let w = (worker_is i less (end.Full s n) is).2 in let f = full_at s w.1 w.3 in record {
        inside = f.0;
        full = f.1;
        caller = suc i;
        first = first;
        end = cc;
        lacks = (less, w.2);
        over = is_over (suc i) s n is inner first f.0 (omega (arith, f.1));
      }
  by_blame zero end.LinkFault inner is other first plain = absurd (timer_is is)
  by_blame (suc i) end.LinkFault inner is other first plain =
      let less : i < workers = omega (arith, inner) in let w = worker_is i less end.LinkFault is in let e : i + 1 ≡ suc i = omega arith in
      record {
        some = omega arith;
        few = omega (arith, less);
        over = rw (← e) w.2;
        faults = rw (← e) (omega (arith, w.3, no_faults i less));
      }
  by_blame zero end.ClockFault inner is other first plain = (timer_is is).2
  by_blame (suc i) end.ClockFault inner is other first plain = absurd (worker_is i (omega (arith, inner)) end.ClockFault is)
  by_blame zero (end.Turns n) inner is other first plain = absurd (timer_is is)
  by_blame (suc i) (end.Turns n) inner is other first plain =
      let less : i < workers = omega (arith, inner) in let w = worker_is i less (end.Turns n) is in let e : i + 1 ≡ suc i = omega arith in
      record {
        some = omega arith;
        few = omega (arith, less);
        over = rw (← e) w.2;
        faults = rw (← e) (w.3 ∙ no_faults i less);
        gave = rw (← e) (omega (arith, w.5, gave_none i less, turns_few));
      }
  by_blame at x inner is other first plain = absurd plain

  timer_gave : (d.over ≡ true) ⊎ (length run.timer.did.got ≡ limits.ticks) → (d.over ≡ true) ⊎ (d.gave ≡ risen c.gave limits.ticks)
  timer_gave (inl x) = inl x
  timer_gave (inr x) = inr (cc)

  link_done : AllEnded ends → (n : ℕ) → 0 < n → n ≤ workers → ((after n).counts.over ≡ true) × ((after n).counts.receive_faults ≡ 0)
  link_done all zero some_n h = absurd (omega (arith, some_n))
  link_done all (suc i) some_n h =
      let less : i < workers = omega (arith, h) in let w = worker_is i less end.Ended (all (suc i) (omega (arith, ends_count, less))) in
      let e : i + 1 ≡ suc i = omega arith in
      (rw (← e) w.2, rw (← e) (w.3 ∙ no_faults i less))

  by_ended : AllEnded ends → IsRunDone engine (history_at states) orders workers limits before after c d ends lost run
  by_ended all =
      let t = timer_is (all 0 (omega (arith, ends_count))) in record {
        links = link_done all;
        ticker = timer_gave t.3;
        faults = t.2;
        timer = t.0;
        workers_are = λ at less. (worker_is at less end.Ended (all (suc at) (let a = ends_count in omega (arith, a, less)))).0;
      }

  by_either : (AllEnded ends × (finish_from 0 ends ≡ Done)) ⊎ Blamed 0 ends (finish_from 0 ends) → All HadMemory ends
      → IsFinishCause engine (history_at states) orders workers limits before after c d ends lost run journal (finish_from 0 ends)
  by_either (inl (all, is)) plain = rw is (by_ended all)
  by_either (inr m) plain = rw m.finish_is (let e : m.at ≡ 0 + m.at = omega arith in rw (← e) (by_blame m.at (get_or ends m.at end.Ended)
      (omega (arith, ends_count, m.inside)) refl m.other m.before (plain m.at end.Ended m.inside)))

  pub cause : All HadMemory ends → {finish : Finish} → finish ≡ finish_from 0 ends
      → IsFinishCause engine (history_at states) orders workers limits before after c d ends lost run journal finish
  cause plain is = rw is (by_either (blame 0 ends plain) plain)

  completes_by : (finish : Finish) → IsFinishCause engine (history_at states) orders workers limits before after c d ends lost run journal
      finish → Completes engine (history_at states) orders workers limits before after c d ends lost run journal finish
  completes_by Done x links clock few = refl
  completes_by (LinkFault n) x links clock few = absurd (omega (arith, (links n x.some x.few).1, x.faults))
  completes_by ClockFault x links clock few = absurd (omega (arith, x, clock))
  completes_by (JournalFull s) x links clock few = absurd (few s x.inside x.over)
  completes_by (Turns n) x links clock few = absurd (cc (sym (links n x.some x.few).0 ∙ x.over))

  pub completes : All HadMemory ends → {finish : Finish} → finish ≡ finish_from 0 ends
      → Completes engine (history_at states) orders workers limits before after c d ends lost run journal finish
  completes plain {finish} is = completes_by finish (cause plain is)
