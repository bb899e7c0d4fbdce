-- One more shard, and at the end all.
use Rattle.std.proofs.Common.{rules, [], refl, subst}
use Rattle.bfdd.specs.Following.{IsUntaken}
use Rattle.bfd_replay.proofs.Going.{passed_on}
use Rattle.bfdd.proofs.Polling.{polled_first, at_place, behind_at, polled_on, polled_went, polled_reported}
use Rattle.bfdd.proofs.watched_text.following.poll_all.Goals as goal

pub loop-shard-init : goal.loop-shard-init
loop-shard-init g c = record {
  of = c.requires.of;
  there = c.requires.there;
  polled = polled_first c.args.number c.args.pass.now c.new-reported.ensures.items c.requires.behind;
}

pub poll-requires-clause-configs : goal.poll-requires-clause-configs
poll-requires-clause-configs g c = (behind_at c.args.engine.now c.args.engine.now.limit c.args.number c.loop-shard.shard c.args.pass.now
    c.loop-shard.pass c.args.watches.now.items c.loop-shard.watches.items c.loop-shard.reported.items c.index_mut-watch.result.now
    c.requires.behind c.loop-shard.invariant.polled (search rules)
    (at_place c.loop-shard.watches.items c.loop-shard.invariant.polled.long (search rules) c.index_mut-watch.ensures.value)).0

pub poll-requires-clause-begins : goal.poll-requires-clause-begins
poll-requires-clause-begins g c = (behind_at c.args.engine.now c.args.engine.now.limit c.args.number c.loop-shard.shard c.args.pass.now
    c.loop-shard.pass c.args.watches.now.items c.loop-shard.watches.items c.loop-shard.reported.items c.index_mut-watch.result.now
    c.requires.behind c.loop-shard.invariant.polled (search rules)
    (at_place c.loop-shard.watches.items c.loop-shard.invariant.polled.long (search rules) c.index_mut-watch.ensures.value)).2

pub returns-in-Err-clause-kept : goal.returns-in-Err-clause-kept
returns-in-Err-clause-kept g c = (passed_on c.loop-shard.invariant.polled.passed c.poll.ensures.read.turned).kept

pub returns-in-Err-clause-went : goal.returns-in-Err-clause-went
returns-in-Err-clause-went g c = polled_went c.args.engine.now c.args.engine.now.limit c.args.number c.loop-shard.shard c.args.pass.now
    c.loop-shard.pass c.args.watches.now.items c.loop-shard.watches.items c.loop-shard.reported.items c.index_mut-watch.result.now
    c.poll.new.pass [] [] [] c.index_mut-watch.result.now c.requires.number c.loop-shard.invariant.polled c.poll.ensures.read

pub returns-in-Err-clause-untaken : goal.returns-in-Err-clause-untaken
returns-in-Err-clause-untaken g c = (
  c.loop-shard.shard,
  search rules,
  subst (λ n. IsUntaken c.in-Err.fault c.args.engine.now n c.loop-shard.shard c.poll.new.pass)
      (behind_at c.args.engine.now c.args.engine.now.limit c.args.number c.loop-shard.shard c.args.pass.now c.loop-shard.pass
      c.args.watches.now.items c.loop-shard.watches.items c.loop-shard.reported.items c.index_mut-watch.result.now c.requires.behind
      c.loop-shard.invariant.polled (search rules) (at_place c.loop-shard.watches.items c.loop-shard.invariant.polled.long (search rules)
      c.index_mut-watch.ensures.value)).1 c.in-Err.ensures.untaken,
)

pub returns-in-Err-merge-clause-kept : goal.returns-in-Err-merge-clause-kept
returns-in-Err-merge-clause-kept g c = (passed_on c.loop-shard.invariant.polled.passed c.poll.ensures.read.turned).kept

pub returns-in-Err-merge-clause-went : goal.returns-in-Err-merge-clause-went
returns-in-Err-merge-clause-went g c = polled_went c.args.engine.now c.args.engine.now.limit c.args.number c.loop-shard.shard
    c.args.pass.now c.loop-shard.pass c.args.watches.now.items c.loop-shard.watches.items c.loop-shard.reported.items
    c.index_mut-watch.result.now c.poll.new.pass [] [] [] c.index_mut-watch.result.now c.requires.number c.loop-shard.invariant.polled
    c.poll.ensures.read

pub loop-shard-preserved : goal.loop-shard-preserved
loop-shard-preserved g c = record {
  of = c.poll.ensures.of;
  there = c.poll.ensures.there;
  polled = polled_on c.args.engine.now c.args.engine.now.limit c.args.number c.loop-shard.shard c.args.pass.now c.loop-shard.pass
      c.args.watches.now.items c.loop-shard.watches.items c.loop-shard.reported.items c.index_mut-watch.result.now c.poll.new.pass _
      c.in-Ok-merge.all.items c.in-Ok.more.items c.poll.new.watch c.requires.number c.requires.behind c.loop-shard.invariant.polled
      (search rules) (at_place c.loop-shard.watches.items c.loop-shard.invariant.polled.long (search rules) c.index_mut-watch.ensures.value)
      c.poll.ensures.read (search rules) refl (search rules) (search rules);
}

pub returns-clause-went : goal.returns-clause-went
returns-clause-went g c = λ r inside. c.loop-shard.invariant.polled.went r

pub returns-clause-reported : goal.returns-clause-reported
returns-clause-reported g c = polled_reported (search rules) c.loop-shard.invariant.polled
