use Rattle.std.proofs.Common.{◌≡◌, ◌≤◌, length}
use Rattle.bfd_lanes.specs.Held.{room_of}
use Rattle.bfd_shard_tests.proofs.wheel.out_of_order.Given as goal

abbrev pub invariant-loop-id : goal.invariant-loop-id
invariant-loop-id g l = record { count : length (g.W.Timers.dues l.timers) ≡ 17; room : 17 ≤ room_of l.out }
