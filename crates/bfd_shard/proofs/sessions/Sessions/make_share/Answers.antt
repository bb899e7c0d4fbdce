-- The sessions of a share are no more than all.
use Rattle.bfd_shard.proofs.Common.{arith, length-map, started}
use Rattle.bfd_shard.specs.Dealing.{share}
use Rattle.bfd_shard.proofs.Sharing.{few_share}
use Rattle.bfd_shard.proofs.sessions.Sessions.make_share.Goals as goal

pub at_start-requires : goal.at_start-requires
at_start-requires g c =
    let own = share c.args.shards c.args.shard c.args.configs.now in
    record {
      few = rw c.in_ok-sessions.ensures.sessions (omega
          (arith, length-map own started, few_share c.args.shards c.args.shard c.args.configs.now, c.requires.few));
      sound = c.in_ok-sessions.ensures.sound;
    }
