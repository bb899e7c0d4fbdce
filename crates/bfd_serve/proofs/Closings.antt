-- From what all did to the histories of the closed shards.
use Rattle.bfd_serve.proofs.RunCommon.{◌≡◌, ◌≢◌, ℕ, zero, suc, ◌+◌, ◌*◌, ◌<◌, ◌≤◌, ◌==◌, false, List, [], ◌∷◌, length, Some, slice_get}
use Rattle.bfd_serve.proofs.RunCommon.{get_or, slice_index_or, refl, ap, sym, ◌∙◌, subst, arith, All, nat_tests, All-same, All-cons}
use Rattle.bfd_serve.proofs.RunCommon.{get_or_default, slice_get_past, get_or_from_slice_get, slice_get_within, same_Some, dite, dec_lt}
use Rattle.bfd_serve.proofs.RunCommon.{calls, has, numbers_of, Entry, Shard, IsShard, Line, LinkObserved, TickerObserved, by, Shards, Knows}
use Rattle.bfd_serve.proofs.RunCommon.{IsOf}
use Rattle.bfd_serve.proofs.RunCommon.{Act, met_word_of, seen_at, met_word, made_at, kept_at, End, Limits, IsTimerEnd, worker_acts}
use Rattle.bfd_serve.proofs.RunCommon.{journal_in, history_at, no_words, observed_on_link, TimerRan, WorkerRan, HaveRun, AreClosedShards}
use Rattle.bfd_serve.proofs.RunCommon.{IsUnspent, IsWorkerEnd, Datagram}
use Rattle.std.proofs.lemmas.Nat.{mul-le}
use Rattle.bfd_turn.specs.Plays.{AllKept}
use Rattle.bfd_engine.specs.Passes.{EachJoined, IsClosed, AreClosed}
use Rattle.bfd_serve.specs.declared.ending.End.TheVariants.{Ended, Spent}
use Rattle.bfd_serve.specs.Serves.{TimerDid, WorkerDid, HasServed}

pub there_is : {X : Type 0} (xs : List X) (i : ℕ) → i < length xs → (x : X) × (slice_get xs i ≡ Some x)
there_is [] i h = absurd (omega arith)
there_is (x ∷ xs) zero h = (x, refl)
there_is (x ∷ xs) (suc i) h = there_is xs i (omega arith)

none_has : (n : ℕ) (js : List (ℕ × List Entry)) → ((i : ℕ) (j : ℕ × List Entry) → slice_get js i ≡ Some j → j.0 ≢ n)
    → has n (numbers_of js) ≡ false
none_has n [] f = refl
none_has n (j ∷ js) f = let b : (j.0 == n) ≡ false = grind (arith, nat_tests, f 0 j refl) in rw b (none_has n js (λ i x e. f (suc i) x e))

-- every pass that was made was joined
pub each_joined : (engine : Shards) (l : Knows) → ((shard : ℕ) → shard < length engine.locks
    → made_at l shard ≡ numbers_of (kept_at l shard)) → EachJoined engine l
each_joined engine l made shard n inside h = cc (made shard inside)

-- where no lock has met its last word, no end is Spent
abbrev pub AreSmall : (ℕ → ℕ) → Type 0
AreSmall words = (shard : ℕ) → words shard < 18446744073709551614

timer_unspent : (engine : Shards) (histories : ℕ → List Entry) {words : ℕ → ℕ} (c d : TickerObserved) (got : List ℕ) (ticks : ℕ)
    (cut : List Act) (untried : List Datagram) (end : End)
    → AreSmall words → IsTimerEnd engine histories words c d got ticks cut untried end → IsUnspent end
    × IsTimerEnd engine histories no_words c d got ticks cut untried end
timer_unspent engine histories c d got ticks cut untried (Spent shard word) small i =
    absurd (let s = i.1 in omega (arith, small shard, s.1, s.2))
timer_unspent engine histories c d got ticks cut untried end small i = (tt, i)

worker_unspent : (engine : Shards) (histories : ℕ → List Entry) {words : ℕ → ℕ} (t u : LinkObserved) (turned turns : ℕ) (cut : List Act)
    (untried : List Datagram) (end : End)
    → AreSmall words → IsWorkerEnd engine histories words t u turned turns cut untried end → IsUnspent end
    × IsWorkerEnd engine histories no_words t u turned turns cut untried end
worker_unspent engine histories t u turned turns cut untried (Spent shard word) small i =
    absurd (let s = i.2 in omega (arith, small shard, s.1, s.2))
worker_unspent engine histories t u turned turns cut untried end small i = (tt, i)

kept_here : (js : List (ℕ × List Entry)) (history : List Entry) (at number : ℕ) (own : List Entry) → slice_get js at ≡ Some (number, own)
    → AllKept by js history → calls by number history ≡ own
kept_here js history at number own here kept =
    subst (λ j. calls by j.0 history ≡ j.1) (get_or_from_slice_get js at (number, own) (number, own) here)
    (kept at (number, own) (slice_get_within js at (number, own) here))

product : {a b : ℕ} → a ≤ 64 → b ≤ 1000000000 → a * b ≤ 64000000000
product {a} {b} h k = mul-le a b 64 1000000000 h k

module _ {L : Type 0} (observed : L → LinkObserved) (engine : Shards) (l : Knows) (own own2 : L) (c d : TickerObserved) (orders : List Line)
    (limits : Limits) (links back : List L) (ends : List End) (lost : ℕ) (states : List Shard)
    (served : HasServed observed engine l (observed own) (observed own2) c d orders limits links back ends lost)
    (of : IsOf engine l.1) (zero_is : l.0 ≡ 0) (closed : AreClosed engine l states)
    (few : length links ≤ 64) (turns_few : limits.turns ≤ 1000000000) (ticks_few : limits.ticks ≤ 1000000000)
    (orders_few : length orders ≤ 200000) where
  -- what is known of one shard
  at_shard : {s : ℕ} → s < length engine.locks → (x : Shard) × (slice_get states s ≡ Some x) × IsClosed engine l s x
  at_shard {s} less = let x = there_is states s (omega (arith, less, closed.long)) in (x.0, x.1, closed.each s x.0 x.1)

  history_is : (s : ℕ) → history_at states s ≡ seen_at l s
  history_is s = dite (dec_lt s (length engine.locks)) (λ less. let a = at_shard less in ap journal_in a.1 ∙ a.2.journal)
      (λ far. cc (slice_get_past states s (omega (arith, far, closed.long)), slice_get_past l.1 s (omega (arith, of.long, far))))

  histories_are : seen_at l ≡ history_at states
  histories_are i s = sym (history_is s) i

  words_small : AreSmall (met_word l)
  words_small s = dite (dec_lt s (length engine.locks))
      (λ less. omega (arith, (at_shard less).2.word, served.taken s less, product few turns_few, ticks_few, orders_few))
      (λ far. omega (arith, ap met_word_of (slice_get_past l.1 s (omega (arith, of.long, far)))))

  timer_did : TimerDid engine served.own (history_at states) (met_word l) (observed own) (observed own2) c d orders limits.ticks
      served.timer_end
      served.timer_lost
  timer_did = rw (← histories_are) served.timed

  timer_end_is : IsUnspent served.timer_end × IsTimerEnd engine (history_at states) no_words c d timer_did.got limits.ticks timer_did.cut
      timer_did.untried served.timer_end
  timer_end_is = timer_unspent engine (history_at states) c d timer_did.got limits.ticks timer_did.cut timer_did.untried served.timer_end
      words_small timer_did.ends

  timer_ran : TimerRan engine (history_at states) (observed own) (observed own2) c d orders limits.ticks served.timer_end served.timer_lost
  timer_ran = record {
    own = served.own;
    own_is = λ s less. cc (history_is s, served.own_is s less);
    did = record {
      got = timer_did.got;
      done = timer_did.done;
      cut = timer_did.cut;
      untried = timer_did.untried;
      all = timer_did.all;
      did = timer_did.did;
      aside = timer_did.aside;
      given = timer_did.given;
      gave = timer_did.gave;
      few = timer_did.few;
      ends = timer_end_is.1;
    };
  }

  -- what the worker of this link did, whatever stands beyond the lists' ends
  worker_ran : (at : ℕ) (link : L) (end : End) (miss : ℕ) → at < length links → IsUnspent (slice_index_or served.worker_ends at end)
      × WorkerRan engine (history_at states) (at + 1) (observed (slice_index_or links at link)) (observed (slice_index_or back at link))
      limits.turns (slice_index_or served.worker_ends at end) (slice_index_or served.worker_losts at miss)
  worker_ran at link end miss inner =
      let t = observed (slice_index_or links at link) in let u = observed (slice_index_or back at link) in
      let e : End = slice_index_or served.worker_ends at end in let m : ℕ = slice_index_or served.worker_losts at miss in
      let w = served.workers at link end miss inner in
      let d : WorkerDid engine (at + 1) w.own (history_at states) (met_word l) t u limits.turns e m = rw (← histories_are) w.worked in
      let x = worker_unspent engine (history_at states) t u d.turned limits.turns (worker_acts engine d.cut) d.untried e words_small
      d.ends in (
        x.0,
        record {
          own = w.own;
          own_is = λ s less. (let a = at_shard less in
              ap (calls by (at + 1)) (ap journal_in a.1)
              ∙ kept_here (kept_at l s) a.0.journal at (at + 1) (w.own s) (w.kept s less) a.2.kept);
          did = record {
            done = d.done;
            cut = d.cut;
            untried = d.untried;
            did = d.did;
            ends = x.1;
            turned = d.turned;
            gave = d.gave;
            each = d.each;
            few = d.few;
          };
        },
      )

  -- a kept number is that of a worker
  kept_numbers : {s : ℕ} → s < length engine.locks → {n : ℕ} → length links < n → (i : ℕ) (j : ℕ × List Entry)
      → slice_get (kept_at l s) i ≡ Some j → j.0 ≢ n
  kept_numbers {s} less far i j here same =
      let inner : i < length links = omega (arith, slice_get_within (kept_at l s) i j here, served.kept_long s less) in
      let w = served.workers i own Ended 0 inner in
      let num : i + 1 ≡ j.0 = cc ((same_Some (i + 1, w.own s) j (cc (w.kept s less)))) in absurd (omega (arith, same, num, inner, far))

  others_here : (n s : ℕ) → s < length engine.locks → length links < n → calls by n (history_at states s) ≡ []
  others_here n s less far = let a = at_shard less in
      ap (calls by n) (ap journal_in a.1) ∙ a.2.unmade n (λ z. absurd (omega (arith, z, far)))
      (cc (served.made s less, none_has n (kept_at l s) (kept_numbers less far)))

  each_ran : (at : ℕ) → at < length links → WorkerRan engine (history_at states) (at + 1) ((observed_on_link observed own links) (at + 1))
      ((observed_on_link observed own2 back) (at + 1)) limits.turns (slice_index_or served.worker_ends at Ended)
      (slice_index_or served.worker_losts at 0)
  each_ran at inner =
      let e : suc at ≡ at + 1 = omega arith in
      let same : observed (slice_index_or back at own) ≡ (observed_on_link observed own2 back) (at + 1) =
      cc (get_or_default back at own own2 (let b = served.back_long in omega (arith, b, inner))) in
      rw (← same) (rw (← ap (observed_on_link observed own links) e) (worker_ran at own Ended 0 inner).1)

  pub have_run : HaveRun engine (history_at states) orders (length links) limits (observed_on_link observed own links)
      (observed_on_link observed own2 back)
      c d ends lost
  have_run = record {
    timer_end = served.timer_end;
    timer_missing = served.timer_lost;
    timer = timer_ran;
    worker_ends = served.worker_ends;
    missing = served.worker_losts;
    ends_are = served.ends_are;
    ends_long = served.ends_long;
    missing_long = served.losts_long;
    each = each_ran;
    others = others_here;
    lost_is = served.lost_is;
  }

  pub unspent : All IsUnspent ends
  unspent = All-same IsUnspent ends (served.timer_end ∷ served.worker_ends) served.ends_are
      (All-cons IsUnspent served.timer_end served.worker_ends timer_end_is.0
      (λ i x inner. (worker_ran i own x 0 (let e = served.ends_long in omega (arith, e, inner))).0))

-- one more element of a list
pub one_more : {X : Type 0} (P : X → Type 0) (xs : List X) (at : ℕ) (x : X) → at < length xs → x ≡ get_or xs at x → P x
    → ((k : ℕ) (d : X) → k < at → P (get_or xs k d)) → (k : ℕ) (d : X) → k < at + 1 → P (get_or xs k d)
one_more P xs at x inside is here before k d h = dite (dec_lt k at) (λ less. before k d less)
    (λ last. let same : k ≡ at = omega (arith, last, h) in
    subst P (is ∙ (get_or_default xs at x d inside ∙ ap (λ i. get_or xs i d) (sym same))) here)

pub closed_shards : {engine : Shards} {l : Knows} {states seen : List Shard} → AreClosed engine l states → seen ≡ states → All IsShard seen
    → AreClosedShards engine states
closed_shards {states} closed same kept = record {
  long = closed.long;
  each = λ n x e. (let a = closed.each n x e in record {
    configs = a.configs;
    limit = a.limit;
    kept = subst IsShard (get_or_from_slice_get states n x x e) (subst (All IsShard) same kept n x (slice_get_within states n x e));
  });
}
