-- One more watch.
use Rattle.bfd_shard.proofs.Sharing.{all_share, few_share}
use Rattle.bfd_session.specs.Step.{IsFit}
use Rattle.std.proofs.Common.{[], ap, ◌∙◌, arith}
use Rattle.bfd_watch.specs.Watching.{watching}
use Rattle.bfdd.proofs.Copies.{watch_more}
use Rattle.bfdd.proofs.watched_text.following.watches.Goals as goal

pub make-requires-clause-few : goal.make-requires-clause-few
make-requires-clause-few g c = rw c.in_ok-own.ensures
    (omega (arith, few_share c.args.shards c.loop-shard.shard c.args.configs.now, c.requires.few))

pub make-requires-clause-fit : goal.make-requires-clause-fit
make-requires-clause-fit g c = rw c.in_ok-own.ensures (all_share IsFit c.args.shards c.loop-shard.shard c.args.configs.now c.requires.fit)

pub loop-shard-preserved : goal.loop-shard-preserved
loop-shard-preserved g c = record {
  long = omega (arith, c.loop-shard.invariant.long, c.in_ok-push.ensures.len);
  each = λ r h. watch_more c.args.shards c.loop-shard.shard c.args.limit c.args.configs.now c.loop-shard.list.items _ _
      c.in_ok-push.ensures.items c.loop-shard.invariant.long
      (c.in_ok-make.ensures ∙ ap (λ cs. watching cs [] c.args.limit) c.in_ok-own.ensures) c.loop-shard.invariant.each r h;
}
