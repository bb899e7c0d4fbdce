-- The due ticks so far are kept.
use Rattle.bfd_shard.proofs.Common.{◌≡◌, ◌++◌, map, take, drop, length, due}
use Rattle.bfd_shard.proofs.start.keep_all.Given as goal

abbrev pub invariant-loop-place : goal.invariant-loop-place
invariant-loop-place g l =
    let dues = g.W.Timers.dues in
    record {
      long : length (dues l.timers) ≡ length l.sessions;
      kept : dues l.timers ≡ map due (take l.place l.sessions) ++ drop l.place (dues l.initial.timers);
    }
