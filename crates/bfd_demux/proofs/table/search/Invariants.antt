use Rattle.bfd_demux.proofs.Common.{◌-◌, ◌≡◌, ◌+◌, ◌<◌, ◌≤◌, ℕ, ◌*◌, ◌^◌, length, get_or, Less, Greater}
use Rattle.bfd_demux.proofs.table.search.Given as goal

abbrev pub invariant-loop-low : goal.invariant-loop-low
invariant-loop-low g l = (l.low ≤ l.high) × (l.high ≤ length l.entries)
    × ((k : ℕ) (d : _) → k < l.low → g.K.Ord.cmp (get_or l.entries k d).0 l.key ≡ Less)
    × ((k : ℕ) (d : _) → l.high ≤ k → k < length l.entries → g.K.Ord.cmp (get_or l.entries k d).0 l.key ≡ Greater)
    × (l.initial.steps ≤ l.steps)
    × (l.steps ≤ l.initial.steps + 16) × (2 ^ (l.steps - l.initial.steps) * (l.high - l.low) ≤ l.initial.high - l.initial.low)

abbrev pub decreases-loop-low : goal.decreases-loop-low
decreases-loop-low g l = l.high - l.low
