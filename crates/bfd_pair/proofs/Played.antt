-- An event of the schedule leaves what the schedule with it makes.
use Rattle.std.proofs.Common.{◌≡◌, ◌≤◌, ◌+◌, ◌++◌, ℕ, suc, List, [], ◌∷◌, length, refl, sym, ap, ◌∙◌, arith}
use Rattle.bfd_num.specs.Numbers.{next_j}
use Rattle.bfd_session.specs.declared.event.SessionConfig.TheVariants.{PointToPoint}
use Rattle.bfd_pair.specs.declared.event.PairEvent.{PairEvent}
use Rattle.bfd_pair.specs.Run.{Both, PairTurn, pair_run, turn}
use Rattle.bfd_pair.specs.Inside.{Pairing}
use Rattle.bfd_pair.specs.declared.schedule.playing.Tally.{Tally}
use Rattle.bfd_pair.specs.Schedule.{left, right, run_of_seed, draw, event_by, schedule}
use Rattle.bfd_pair.specs.Line.{given_in, rises_in, total_over, total_of, line_by, sent_in, pair_line}
use Rattle.bfd_pair.specs.Playing.{IsPlayed}
use Rattle.bfd_pair.proofs.Totals.{total_more, length_schedule}

-- at the start nothing was played
pub starts : {seed : ℕ} {p : Pairing} → p ≡ record { left = PointToPoint (left seed); right = PointToPoint (right seed); past = [] }
    → IsPlayed seed 0 p (record { draw = seed; given = 0; rises = 0 })
unfolding schedule draw total_over
starts is = record {
  pair = is;
  draw = refl;
  given = refl;
  rises = refl;
  few_given = omega arith;
  few_rises = omega arith;
}

-- a sum over the schedule and one more event
sum_more : (count : PairEvent → PairTurn → ℕ) (seed e : ℕ) {sum sum2 : ℕ} (event : PairEvent) {w : Both}
    → sum ≡ total_of count seed (schedule seed e) → w ≡ run_of_seed seed (schedule seed e)
    → schedule seed e ++ event ∷ [] ≡ schedule seed (suc e) → sum2 ≡ sum + count event (turn event w)
    → sum2 ≡ total_of count seed (schedule seed (suc e))
sum_more count seed e event before is past_is more = cc (total_more count seed (schedule seed e) event)

draw_more : (seed e : ℕ) {before after : ℕ} → before ≡ draw seed e → after ≡ next_j before → after ≡ draw seed (suc e)
unfolding draw
draw_more seed e is more = cc

schedule_more : (seed e : ℕ) {event : PairEvent} → event ≡ event_by (suc e) (draw seed (suc e)) (run_of_seed seed (schedule seed e))
    → schedule seed e ++ event ∷ [] ≡ schedule seed (suc e)
unfolding schedule
schedule_more seed e is = cc

plays_next : {seed e : ℕ} {pair pair2 : Pairing} {tally tally2 : Tally} {event : PairEvent} → IsPlayed seed e pair tally
    → pair2 ≡ record pair { past = pair.past ++ event ∷ [] } → tally2.draw ≡ next_j tally.draw
    → event ≡ event_by (suc e) tally2.draw (pair_run pair.left pair.right pair.past)
    → tally2.given ≡ tally.given + given_in event (turn event (pair_run pair.left pair.right pair.past))
    → tally2.rises ≡ tally.rises + rises_in event (turn event (pair_run pair.left pair.right pair.past))
    → tally2.given ≤ tally.given + 1 → tally2.rises ≤ tally.rises + 10 → IsPlayed seed (suc e) pair2 tally2
plays_next {seed} {e} {pair} {tally} {tally2} {event} h more draws is given rises few_given few_rises =
    let w : Both = pair_run pair.left pair.right pair.past in
    let run_is : w ≡ run_of_seed seed (schedule seed e) = cc in
    let draw_is = draw_more seed e h.draw draws in
    let past_is = schedule_more seed e (cc) in
    record {
      pair = cc;
      draw = draw_is;
      given = sum_more given_in seed e event h.given run_is past_is given;
      rises = sum_more rises_in seed e event h.rises run_is past_is rises;
      few_given = (let few = h.few_given in omega arith);
      few_rises = (let few = h.few_rises in omega arith);
    }

pub plays : {seed e : ℕ} {pair pair2 : Pairing} {tally tally2 : Tally} {event : PairEvent} → IsPlayed seed e pair tally
    → pair2 ≡ record pair { past = pair.past ++ event ∷ [] } → tally2.draw ≡ next_j tally.draw
    → event ≡ event_by (e + 1) tally2.draw (pair_run pair.left pair.right pair.past)
    → tally2.given ≡ tally.given + given_in event (turn event (pair_run pair.left pair.right pair.past))
    → tally2.rises ≡ tally.rises + rises_in event (turn event (pair_run pair.left pair.right pair.past))
    → tally2.given ≤ tally.given + 1 → tally2.rises ≤ tally.rises + 10 → IsPlayed seed (e + 1) pair2 tally2
plays {e} h more draws is given rises few_given few_rises =
    let same : suc e ≡ e + 1 = omega arith in
    rw (← same) (plays_next h more draws (cc) given rises few_given few_rises)

-- the line of what was played
pub line_is : (seed e : ℕ) (p : Pairing) (t : Tally) → IsPlayed seed e p t
    → line_by e (sent_in (pair_run p.left p.right p.past)) t.given (pair_run p.left p.right p.past).left.session.vars.state
    (pair_run p.left p.right p.past).right.session.vars.state t.rises ≡ pair_line seed (schedule seed e)
line_is seed e p t h =
    ap (λ q. line_with e (pair_run q.left q.right q.past) t.given t.rises) h.pair
    ∙ (ap (λ (n : ℕ). line_with n (run_of_seed seed (schedule seed e)) t.given t.rises) (sym (length_schedule seed e))
    ∙ (ap (λ (n : ℕ). line_with (length (schedule seed e)) (run_of_seed seed (schedule seed e)) n t.rises) h.given
    ∙ ap (λ (n : ℕ). line_with (length (schedule seed e)) (run_of_seed seed (schedule seed e)) (total_of given_in seed (schedule seed e)) n)
    h.rises))
  where
    line_with : ℕ → Both → ℕ → ℕ → List ℕ
    line_with n w given rises = line_by n (sent_in w) given w.left.session.vars.state w.right.session.vars.state rises
