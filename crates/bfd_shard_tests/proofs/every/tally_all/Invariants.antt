-- There is room for one event.
use Rattle.std.proofs.Common.{◌≤◌}
use Rattle.bfd_shard_tests.proofs.every.tally_all.Given as goal

abbrev pub invariant-loop-schedule : goal.invariant-loop-schedule
invariant-loop-schedule l = 10 ≤ l.outs.room
