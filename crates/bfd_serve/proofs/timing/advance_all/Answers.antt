-- One more shard, or the shards up to one that stopped.
use Rattle.bfd_serve.proofs.Common.{◌≡◌, ◌+◌, ◌-◌, length, ap, refl, ◌∙◌, arith, advances, IsStopped, ℕ}
use Rattle.bfd_serve.proofs.Doing.{whole_none, whole_then, stopped_then, stopped_less}
use Rattle.bfd_serve.proofs.Ordering.{advances_next, advances_rest}
use Rattle.bfd_serve.proofs.timing.advance_all.Goals as goal

pub loop-shard-init : goal.loop-shard-init
loop-shard-init g c = record {
  of = c.requires.of;
  there = c.requires.there;
  room = refl;
  whole = whole_none c.args.engine.now c.args.pass.now (g.L.Link.observed c.args.link.now) c.args.lost.now;
}

pub loop-shard-preserved : goal.loop-shard-preserved
loop-shard-preserved g c = record {
  of = c.advance.ensures.of;
  there = c.advance.ensures.there;
  room = cc;
  whole = rw (advances_next c.loop-shard.shard c.args.tick)
      (whole_then c.args.engine.now c.loop-shard.invariant.whole c.in_default.ensures.done);
}

pub returns-in-Err-clause-done : goal.returns-in-Err-clause-done
returns-in-Err-clause-done g c = let e = c.args.engine.now in let i = c.loop-shard.shard in let n = c.args.tick in let s : ℕ =
    length c.args.engine.now.locks in let t = g.L.Link.observed in
    let two : IsStopped e (advances (i + 1) n) c.args.pass.now c.advance.new.pass (t c.args.link.now) (t c.advance.new.link) c.args.lost.now
    c.advance.new.lost c.in-Err.end =
    rw (advances_next i n) (stopped_then e c.loop-shard.invariant.whole c.in-Err.ensures.done) in
    let rest = advances_rest (i + 1) (s - (i + 1)) n in
    let all : (s - (i + 1)) + (i + 1) ≡ s = omega arith in
    rw (← rest.1 ∙ ap (λ m. advances m n) all) (stopped_less e rest.0 two)
