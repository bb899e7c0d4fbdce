use Rattle.std.proofs.Common.{◌≡◌, ◌≤◌, length}
use Rattle.bfd_lanes.specs.Held.{room_of}
use Rattle.bfd_shard_tests.proofs.wheel.tick_by_tick.Given as goal

abbrev pub invariant-loop-t : goal.invariant-loop-t
invariant-loop-t g l = record { count : length (g.W.Timers.dues l.timers) ≡ 17; room : 17 ≤ room_of l.out }
