-- The numbers so far.
use Rattle.bfd_engine.proofs.Common.{◌≡◌, ◌<◌, ℕ, length, get_or}
use Rattle.bfd_engine.proofs.making.numbers_below.Given as goal

abbrev pub invariant-loop-number : goal.invariant-loop-number
invariant-loop-number l = record {
  long : length l.all.items ≡ l.number;
  each : (k d : ℕ) → k < l.number → get_or l.all.items k d ≡ k;
}
