-- The lines so far were reported; those that are left stand in reverse.
use Rattle.bfd_replay.proofs.StreamCommon.{◌≡◌, ◌≤◌, ◌+◌, ◌*◌, ℕ, length, reverse}
use Rattle.bfd_engine.specs.Engines.{IsOf, AllThere, configs_at}
use Rattle.bfd_replay.specs.Turning.{HasKept}
use Rattle.bfd_replay.proofs.Events.{IsReporting}
use Rattle.bfd_replay.proofs.stream.reporting.report_lines.Given as goal

abbrev pub invariant-lines : goal.invariant-lines
invariant-lines g l = record {
  of : IsOf l.engine l.pass.1;
  there : AllThere l.pass.1;
  kept : HasKept l.reported.events l.initial.pass l.pass;
  room : (shard : ℕ) → 5 * length (configs_at l.engine shard) + 5 ≤ l.outs.room;
  pending : IsReporting l.engine l.fn.events.items (reverse l.left.items) l.pass (g.K.Sink.taken l.initial.sink) (g.K.Sink.taken l.sink)
      l.initial.reported l.reported;
  numbers : l.reported.events + length l.left.items ≤ length l.fn.events.items;
  calm : g.K.Sink.faults l.sink ≡ g.K.Sink.faults l.initial.sink;
}

abbrev pub decreases-lines : goal.decreases-lines
decreases-lines g l = length l.left.items
