-- The timer's ticks, one after another.
use Rattle.bfd_serve.proofs.Common.{◌≡◌, ◌⊎◌, ◌+◌, ◌<◌, ◌≤◌, Bool, true, false, ◌++◌, length, drop, Option, Some, None, refl, ap, ap₂, sym}
use Rattle.bfd_serve.proofs.Common.{◌∙◌, inl, inr, append_assoc, append-nil, length-append, length-map, dite, dec_lt, arith, drop-drop}
use Rattle.bfd_serve.proofs.Common.{Datagram, Entry, Line, risen, LinkObserved, Ticks, TickerObserved, after_next, one_given, Shards, Knows}
use Rattle.bfd_serve.proofs.Common.{Act}
use Rattle.bfd_serve.proofs.Common.{seen_at, met_word, End, Ended, ClockFault, Full, Spent, Memory, orders_due, order_act, orders_acts}
use Rattle.bfd_serve.proofs.Common.{tick_acts, ticks_acts, orders_left, timer_acts, Stops, IsStopped, IsWhole, more_given, IsTimerEnd}
use Rattle.bfd_serve.proofs.Common.{is_clock_fault, HasTimed, IsTicking, IsFinished, ℕ, List, [], ◌∷◌}
use Rattle.bfd_edge.specs.declared.ticker.Next.TheVariants as next
use Rattle.bfd_serve.proofs.Packets.{risen_same, risen_join}
use Rattle.bfd_serve.proofs.Doing.{did_none, did_less, aside_same, whole_none, whole_then, stopped_then, stopped_less}
use Rattle.bfd_serve.proofs.Ordering.{ticks_snoc, left_snoc}

given_none : (x : Option Ticks) → x ≡ more_given [] x
given_none None = refl
given_none (Some t) = ap (λ g. Some (record { given = g; left = t.left })) (sym (append-nil t.given))

given_one : (got : List ℕ) (t : ℕ) (x : Option Ticks) → one_given t (more_given got x) ≡ more_given (got ++ t ∷ []) x
given_one got t None = refl
given_one got t (Some x) = ap₂ (λ g l. Some (record { given = g; left = l })) (append_assoc x.given got (t ∷ []))
    (cc (drop-drop 1 (length got) x.left, length-append got (t ∷ [])))

module _ (engine : Shards) where
  pub ticking_start : (k : Knows) (t : LinkObserved) (c : TickerObserved) (orders : List Line) → c.over ≡ false
      → IsTicking engine k k t t c c orders orders 0 0
  ticking_start k t c orders over = record {
    got = [];
    whole = whole_none engine k t 0;
    left_is = refl;
    given = given_none c.ticks;
    count_is = refl;
    gave = risen_same c.gave;
    no_fault = refl;
    over = over;
  }

  pub ticking_more : {k l m : Knows} {t u v : LinkObserved} {c d f : TickerObserved} {orders left rest : List Line} {n : ℕ}
      (tick : ℕ) {lost after : ℕ} → IsTicking engine k l t u c d orders left n lost → f ≡ after_next (next.Got tick) d
      → IsWhole engine (tick_acts engine left tick) l m u v lost after → rest ≡ drop (orders_due tick left) left
      → IsTicking engine k m t v c f orders rest (n + 1) after
  ticking_more {c} {orders} {n} tick g is w rest_is = record {
    got = g.got ++ tick ∷ [];
    whole = rw (← ap (λ os. ticks_acts engine orders g.got ++ tick_acts engine os tick) g.left_is
        ∙ sym (ticks_snoc engine orders g.got tick)) (whole_then engine g.whole w);
    left_is = cc (left_snoc orders g.got tick);
    given = cc (given_one g.got tick c.ticks);
    count_is = cc (length-append g.got (tick ∷ []));
    gave = cc (risen_join c.gave n 1);
    no_fault = cc;
    over = cc;
  }

  no_clock_fault : (h : ℕ → List Entry) (w : ℕ → ℕ) (cut : List Act) (untried : List Datagram) (end : End)
      → Stops engine h w cut untried end → is_clock_fault end ≡ false
  no_clock_fault h w cut untried (Full shard n) s = refl
  no_clock_fault h w cut untried (Spent shard word) s = refl
  no_clock_fault h w cut untried Memory s = refl
  no_clock_fault h w cut untried end s = absurd s

  timer_end : (h : ℕ → List Entry) (w : ℕ → ℕ) (c d : TickerObserved) (got : List ℕ) (ticks : ℕ) (cut : List Act) (untried : List Datagram)
      (end : End) → Stops engine h w cut untried end → d.faults ≡ c.faults → IsTimerEnd engine h w c d got ticks cut untried end
  timer_end h w c d got ticks cut untried (Full shard n) s none = (none, s)
  timer_end h w c d got ticks cut untried (Spent shard word) s none = (none, s)
  timer_end h w c d got ticks cut untried Memory s none = (none, inl s)
  timer_end h w c d got ticks cut untried end s none = absurd s

  -- the acts were stopped
  timed_stop : {k l : Knows} {t u : LinkObserved} (c d : TickerObserved) (orders : List Line) {ticks : ℕ} {end : End} {lost : ℕ}
      (got : List ℕ)
      → IsStopped engine (timer_acts engine orders got false) k l t u 0 lost end
      → d.ticks ≡ more_given got c.ticks → d.gave ≡ risen c.gave (length got) → length got ≤ ticks → d.faults ≡ c.faults
      → HasTimed engine k l t u c d orders ticks end lost
  timed_stop {l} c d orders {ticks} {end} got s given gave few none = record {
    got = got;
    done = s.done;
    cut = s.cut;
    untried = s.untried;
    all = cc (no_clock_fault (seen_at l) (met_word l) s.cut s.untried end s.stops);
    did = s.did;
    aside = s.aside;
    given = given;
    gave = gave;
    few = few;
    ends = timer_end (seen_at l) (met_word l) c d got ticks s.cut s.untried end s.stops none;
  }

  -- a tick was stopped, or the orders before it
  pub timed_cut : {k l m : Knows} {t u v : LinkObserved} {c d f : TickerObserved} {orders left : List Line} {n : ℕ}
      (tick : ℕ) {ticks lost after : ℕ} {end : End} → IsTicking engine k l t u c d orders left n lost → f ≡ after_next (next.Got tick) d
      → IsStopped engine (tick_acts engine left tick) l m u v lost after end → n < ticks
      → HasTimed engine k m t v c f orders ticks end after
  timed_cut {k} {m} {t} {v} {c} {f} {orders} {n} tick {after} {end} g is s less =
      let got = g.got ++ tick ∷ [] in
      let two : IsStopped engine (ticks_acts engine orders got) k m t v 0 after end =
      rw (← ap (λ os. ticks_acts engine orders g.got ++ tick_acts engine os tick) g.left_is ∙ sym (ticks_snoc engine orders g.got tick))
      (stopped_then engine g.whole s) in
      let count : length got ≡ n + 1 = cc (length-append g.got (tick ∷ [])) in
      timed_stop c f orders got (stopped_less engine (orders_acts engine (orders_left orders got)) two) (cc (given_one g.got tick c.ticks))
      (cc (risen_join c.gave n 1)) (omega (arith, count)) (cc)

  -- the ticker failed
  pub timed_fault : {k l : Knows} {t u : LinkObserved} {c d f : TickerObserved} {orders left : List Line} {n ticks lost : ℕ}
      → IsTicking engine k l t u c d orders left n lost → f ≡ after_next next.Failed d → n < ticks
      → HasTimed engine k l t u c f orders ticks ClockFault lost
  timed_fault {orders} g is less = record {
    got = g.got;
    done = ticks_acts engine orders g.got;
    cut = [];
    untried = [];
    all = refl;
    did = g.whole.did;
    aside = g.whole.aside;
    given = cc;
    gave = cc;
    few = omega arith;
    ends = (refl, refl, cc, cc);
  }

  why_of : {over : Bool} {a n ticks : ℕ} → a ≡ n → (over ≡ true) ⊎ (n ≡ ticks) → (over ≡ true) ⊎ (a ≡ ticks)
  why_of is (inl x) = inl x
  why_of is (inr x) = inr (cc)

  -- the orders that were left were given, or some of them
  pub timed_finish : {k l m : Knows} {t u v : LinkObserved} {c d f : TickerObserved} {orders left : List Line} {n ticks lost
      after : ℕ} {end : End}
      → IsTicking engine k l t u c d orders left n lost → f.ticks ≡ d.ticks → f.gave ≡ d.gave → f.faults ≡ d.faults → n ≤ ticks
      → (f.over ≡ true) ⊎ (n ≡ ticks) → IsFinished engine (orders_acts engine left) l m u v lost after end
      → HasTimed engine k m t v c f orders ticks end after
  timed_finish {k} {m} {t} {v} {orders} {after} g given gave faults few why (inl (is, w)) =
      let all : IsWhole engine (timer_acts engine orders g.got false) k m t v 0 after = rw (← g.left_is) (whole_then engine g.whole w) in
      rw is (record {
        got = g.got;
        done = timer_acts engine orders g.got false;
        cut = [];
        untried = [];
        all = append-nil (timer_acts engine orders g.got false);
        did = all.did;
        aside = all.aside;
        given = cc;
        gave = cc;
        few = omega arith;
        ends = (refl, refl, cc, why_of g.count_is why);
      })
  timed_finish {c} {f} {orders} g given gave faults few why (inr s) =
      timed_stop c f orders g.got (rw (← g.left_is) (stopped_then engine g.whole s)) (cc) (cc) (omega arith) (cc)

  -- there was nothing to do
  pub timed_idle : (k : Knows) (t : LinkObserved) (c : TickerObserved) (orders : List Line) (ticks : ℕ) → c.over ≡ false → ticks ≡ 0
      → orders ≡ []
      → HasTimed engine k k t t c c orders ticks Ended 0
  timed_idle k t c orders ticks going none empty = timed_finish (ticking_start k t c orders going) refl refl refl (omega arith)
      (inr (sym none)) (inl (refl, rw empty (whole_none engine k t 0)))

  -- there was something to do, and nothing was done
  pub timed_without : (k : Knows) (t : LinkObserved) (c : TickerObserved) (orders : List Line) (ticks : ℕ) → c.over ≡ false
      → 0 < ticks + length orders → HasTimed engine k k t t c c orders ticks Memory 0
  timed_without k t c orders ticks going some = record {
    got = [];
    done = [];
    cut = orders_acts engine orders;
    untried = [];
    all = refl;
    did = did_less engine (orders_acts engine orders) (did_none engine k t 0);
    aside = aside_same engine t;
    given = given_none c.ticks;
    gave = risen_same c.gave;
    few = omega arith;
    ends = (
      refl,
      dite (dec_lt 0 ticks) (λ less. inr (less, going))
          (λ none. inl (omega (arith, none, length-map orders (order_act engine)))),
    );
  }
