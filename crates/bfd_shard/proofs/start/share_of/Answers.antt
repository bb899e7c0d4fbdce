-- One more session, and at the end all.
use Rattle.bfd_shard.proofs.Common.{◌+◌, map, refl, ap, ◌∙◌, arith, started, IsFit}
use Rattle.std.proofs.lemmas.List.Elements.{All-from_recursion}
use Rattle.bfd_shard.proofs.Setting.{sound_more}
use Rattle.bfd_shard.proofs.Sharing.{share_more, share_over, share_from}
use Rattle.bfd_shard.proofs.start.share_of.Goals as goal

pub make-requires : goal.make-requires
make-requires c = rw (c.copy.ensures, c.index-configs-at.is)
    (All-from_recursion IsFit c.args.configs.now c.requires.fit c.loop-at.at c.index-configs-at.result c.loop-at-test.true)

pub loop-at-init : goal.loop-at-init
loop-at-init c = record {
  whole = rw c.in_ok-sessions.ensures.items (ap (map started) (share_from c.args.shards c.args.shard c.args.configs.now));
  few = omega (arith, c.requires.within.0);
  sound = rw c.in_ok-sessions.ensures.items tt;
}

pub loop-at-preserved : goal.loop-at-preserved
loop-at-preserved c = let n = c.args.shards in let at = c.loop-at.at in let inside = c.loop-at-test.true in record {
  whole = share_more started n c.args.shard c.args.configs.now at (at + n) c.loop-at.sessions.items c.push.new.self.items
      c.index-configs-at.result c.in_ok-seat.seat (omega (arith, c.requires.within.0)) inside refl c.index-configs-at.is
      (c.in_ok-seat.ensures.session ∙ ap started c.copy.ensures) c.in_ok-push.ensures.items c.loop-at.invariant.whole;
  few = omega (arith, inside);
  sound = sound_more c.loop-at.sessions.items _ c.in_ok-seat.seat c.loop-at.invariant.sound c.in_ok-seat.ensures.sound
      c.in_ok-push.ensures.items;
}

pub returns-clause-sessions : goal.returns-clause-sessions
returns-clause-sessions c = share_over started c.args.shards c.args.shard c.args.configs.now c.loop-at.at c.loop-at.sessions.items
    (omega (arith, c.loop-at-test.false)) c.loop-at.invariant.whole
