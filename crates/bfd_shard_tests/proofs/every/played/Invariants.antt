-- The room stays.
use Rattle.std.proofs.Common.{◌≡◌}
use Rattle.bfd_shard_tests.proofs.every.played.Given as goal

abbrev pub invariant-loop-number : goal.invariant-loop-number
invariant-loop-number l = l.outs.room ≡ l.initial.outs.room
