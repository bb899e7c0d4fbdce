-- The finish is that of the ends from a place on.
use Rattle.bfd_serve.proofs.RunCommon.{◌≡◌, ◌≤◌, length, drop, All, finish_from, HadMemory}
use Rattle.bfd_serve.proofs.run.finish.finish_of.Given as goal

abbrev pub invariant-loop-left : goal.invariant-loop-left
invariant-loop-left l = record {
  inside : l.left ≤ length l.ends;
  finish : l.finish ≡ finish_from l.left (drop l.left l.ends);
  plain : All HadMemory (drop l.left l.ends);
}

abbrev pub decreases-loop-left : goal.decreases-loop-left
decreases-loop-left l = l.left
