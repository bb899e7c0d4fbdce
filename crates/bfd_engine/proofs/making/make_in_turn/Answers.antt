-- One more shard.
use Rattle.bfd_engine.proofs.Common.{arith, ◌∷◌, [], length-append}
use Rattle.bfd_engine.proofs.States.{new_more}
use Rattle.bfd_engine.proofs.making.make_in_turn.Goals as goal

pub loop-shard-preserved : goal.loop-shard-preserved
loop-shard-preserved g c =
    let i = c.loop-shard.invariant in
    let e = c.in_ok-state.ensures in
    record {
      long = rw c.in_ok-push.ensures.items (omega (arith, length-append c.loop-shard.states.items (c.in_ok-state.state ∷ []), i.long));
      each = rw c.in_ok-push.ensures.items (new_more c.args.shards c.args.configs.now c.loop-shard.states.items c.in_ok-state.state
          c.loop-shard.shard i.long i.each (record { sessions = e.sessions; journal = e.journal; limit = e.limit }));
    }
