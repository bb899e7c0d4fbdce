-- The sessions at the start are no more than their configurations.
use Rattle.bfd_shard.proofs.Common.{arith, length-map, started}
use Rattle.bfd_shard.proofs.sessions.Sessions.make.Goals as goal

pub at_start-requires : goal.at_start-requires
at_start-requires g c = record {
  few = rw c.in_ok-sessions.ensures.sessions (omega (arith, length-map c.args.configs.items started, c.requires.few));
  sound = c.in_ok-sessions.ensures.sound;
}
