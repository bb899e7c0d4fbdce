-- Sums over events, and one more event.
use Rattle.std.proofs.Common.{◌≡◌, ◌+◌, ◌++◌, ℕ, List, [], ◌∷◌, zero, suc, length, length-append, refl, arith}
use Rattle.bfd_pair.specs.declared.event.PairEvent.{PairEvent}
use Rattle.bfd_pair.specs.Run.{Both, PairTurn, turn, both_after, pair_run}
use Rattle.bfd_pair.specs.Schedule.{run_of_seed, schedule}
use Rattle.bfd_pair.specs.Line.{total_over, total_of}

total-append : (count : PairEvent → PairTurn → ℕ) (past : List PairEvent) (event : PairEvent) (w : Both)
    → total_over count (past ++ event ∷ []) w ≡ total_over count past w + count event (turn event (both_after past w))
unfolding total_over
total-append count [] event w = omega arith
total-append count (x ∷ past) event w = omega (arith, total-append count past event (turn x w).both)

pub total_more : (count : PairEvent → PairTurn → ℕ) (seed : ℕ) (past : List PairEvent) (event : PairEvent)
    → total_of count seed (past ++ event ∷ []) ≡ total_of count seed past + count event (turn event (run_of_seed seed past))
unfolding pair_run
total_more count seed past event = total-append count past event (run_of_seed seed [])

pub length_schedule : (seed e : ℕ) → length (schedule seed e) ≡ e
unfolding schedule
length_schedule seed zero = refl
length_schedule seed (suc e) =
    let rest = length_schedule seed e in
    let sum = length-append (schedule seed e) in
    grind arith
