-- The marks so far are below the rank, and have so many bytes of text.
use Rattle.bfd_replay.proofs.ReportCommon.{◌≡◌, ◌≤◌, ◌-◌, true, length, take, AllByRecursion, Mark, mark_key, precedes, rank_key}
use Rattle.bfd_replay.proofs.Marks.{long_of}
use Rattle.bfd_replay.proofs.report.rest.Rest.cut.Given as goal

abbrev pub invariant-below : goal.invariant-below
invariant-below l = record {
  inside : l.count ≤ length l.self-inside.marks.now;
  long_is : l.long ≡ long_of (take l.count l.self-inside.marks.now);
  low : AllByRecursion (λ (m : Mark). precedes (mark_key m) (rank_key l.rank) ≡ true) (take l.count l.self-inside.marks.now);
}

abbrev pub decreases-below : goal.decreases-below
decreases-below l = length l.self-inside.marks.now - l.count
