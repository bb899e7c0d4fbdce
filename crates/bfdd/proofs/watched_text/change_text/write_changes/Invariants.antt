-- What was reported so far, and what the events that are left will report, are the whole text, if caller 0 is the only one.
use Rattle.std.proofs.Common.{◌≡◌, ◌≤◌, ◌+◌, ◌*◌, ℕ, length}
use Rattle.bfd_engine.specs.Engines.{IsOf, AllThere, configs_at}
use Rattle.bfd_replay.specs.Turning.{HasKept}
use Rattle.bfdd.specs.Following.{AreWatched}
use Rattle.bfdd.proofs.Reported.{IsReported}
use Rattle.bfdd.proofs.watched_text.change_text.write_changes.Given as goal

abbrev pub invariant-loop-line : goal.invariant-loop-line
invariant-loop-line g l = record {
  of : IsOf l.engine l.pass.1;
  there : AllThere l.pass.1;
  kept : HasKept (2 * l.number) l.initial.pass l.pass;
  watched : AreWatched l.engine l.engine.limit l.pass l.watches.items;
  room : (shard : ℕ) → 5 * length (configs_at l.engine shard) + 5 ≤ l.outs.room;
  reported : IsReported l.engine l.fn.events.items l.line-iterator.rest.items l.pass l.number l.reported l.text.items l.initial.group
      l.group;
  few : l.reported ≤ length l.text.items;
  numbers : l.number + length l.line-iterator.rest.items ≡ 1 + length l.fn.events.items;
}
