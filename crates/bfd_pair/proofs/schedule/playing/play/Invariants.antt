-- The events before this one have been played.
use Rattle.std.proofs.Common.{◌≡◌}
use Rattle.bfd_pair.specs.Playing.{IsPlayed}
use Rattle.bfd_pair.proofs.schedule.playing.play.Given as goal

abbrev pub invariant-loop-e : goal.invariant-loop-e
invariant-loop-e l = record { played : IsPlayed l.seed l.e l.pair l.tally; room : l.outs.room ≡ 10 }
