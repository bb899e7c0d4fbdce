-- One more session, and at the end all.
use Rattle.std.proofs.Common.{◌+◌, ◌++◌, ◌∷◌, [], refl, ap, ◌∙◌, arith}
use Rattle.bfd_shard.proofs.Sharing.{share_from}
use Rattle.bfdd.proofs.Copies.{share_more, share_over}
use Rattle.bfdd.proofs.watched_text.following.dealt_to.Goals as goal

pub loop-at-init : goal.loop-at-init
loop-at-init c = record {
  whole = cc (share_from c.args.shards c.args.shard c.args.configs.now);
  few = omega (arith, c.requires.inside);
}

pub loop-at-preserved : goal.loop-at-preserved
loop-at-preserved c = let n = c.args.shards in let at = c.loop-at.at in let inside = c.loop-at-test.true in record {
  whole = share_more n c.args.shard at (at + n) c.args.configs.now c.loop-at.part.items c.push.new.self.items c.index-configs-at.result
      c.requires.some.0 inside refl c.index-configs-at.is
      (c.in_ok-push.ensures.items ∙ ap (λ y. c.loop-at.part.items ++ y ∷ []) c.copy.ensures) c.loop-at.invariant.whole;
  few = omega (arith, inside);
}

pub returns : goal.returns
returns c = share_over c.args.shards c.args.shard c.loop-at.at c.args.configs.now c.loop-at.part.items (omega (arith, c.loop-at-test.false))
    c.loop-at.invariant.whole
