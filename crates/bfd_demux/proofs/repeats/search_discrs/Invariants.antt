use Rattle.bfd_demux.proofs.Common.{◌≡◌, ℕ, ◌==◌, take, drop, nat_cmp, get, position_from, first_repeat, repeat_after, same_discr}
use Rattle.bfd_demux.proofs.repeats.search_discrs.Given as goal

abbrev pub invariant-loop-place : goal.invariant-loop-place
invariant-loop-place l = (repeat_after same_discr (take l.place l.rows) (drop l.place l.rows) ≡ first_repeat same_discr l.rows)
    × ((q : ℕ) → get nat_cmp l.first q ≡ position_from (λ row. q == row.discr) 0 (take l.place l.rows))
