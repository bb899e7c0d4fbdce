use Rattle.bfd_engine.proofs.Common.{◌≡◌, ◌≤◌, ◌++◌, length, vec_capacity}
use Rattle.bfd_engine.proofs.Closing.{LeftFrom, AreEnded}
use Rattle.bfd_engine.proofs.engine.Engine.close.Given as goal

abbrev pub invariant-loop-lock : goal.invariant-loop-lock
invariant-loop-lock g l = record {
  can : (goal.iterator-loop-lock g).can_next l.lock-iterator;
  ends : (goal.iterator-loop-lock g).is_finite l.lock-iterator;
  all : l.yielded ++ l.lock-iterator.rest.items ≡ l.fn.self.locks;
  long : length l.shards.items ≡ length l.yielded;
  room : length l.fn.self.locks ≤ vec_capacity l.shards;
  number : l.pass.0 ≡ l.fn.pass.0;
  left : LeftFrom (length l.shards.items) l.fn.pass.1 l.pass.1;
  ended : AreEnded l.fn.self l.fn.pass l.shards.items;
}
