-- That a replay was made on the hands that were asked for.
use Rattle.std.specs.Prelude.{◌≡◌}
use Rattle.bfd_script.specs.Reading.{Lists}
use Rattle.bfdd.specs.declared.words.job.Form.TheVariants as form
use Rattle.bfdd.specs.declared.words.job.Hands.{Hands}
use Rattle.bfd_replay.specs.Replayed.{HaveReplayed, taker_of}
use Rattle.bfdd.specs.declared.job.replaying.ShardsOf.{ShardsOf}
use Rattle.bfdd.specs.declared.job.replaying.ShardsOf.TheVariants.{Hashed, Levels}

-- these closed shards are as many as were asked for, and keep their timers in the form that was asked for. Each was worked on by the
-- caller that handles it among as many workers as were asked for
abbrev pub IsWrittenBy : Hands → Lists → ShardsOf → Type 0
IsWrittenBy hands script (Hashed closed) = (hands.timers ≡ form.Hashed)
    × HaveReplayed script hands.shards (taker_of hands.workers) closed.value.items
IsWrittenBy hands script (Levels closed) = (hands.timers ≡ form.Levels)
    × HaveReplayed script hands.shards (taker_of hands.workers) closed.value.items
