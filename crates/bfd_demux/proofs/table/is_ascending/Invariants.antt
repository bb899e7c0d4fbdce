use Rattle.bfd_demux.proofs.Common.{◌≡◌, ◌<◌, ℕ, get_or, Less}
use Rattle.bfd_demux.proofs.table.is_ascending.Given as goal

abbrev pub invariant-loop-place : goal.invariant-loop-place
invariant-loop-place g l = (i j : ℕ) (d : _) → i < j → j < l.place → g.K.Ord.cmp (get_or l.entries i d).0 (get_or l.entries j d).0 ≡ Less
