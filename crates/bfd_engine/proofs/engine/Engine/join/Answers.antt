-- The other's pass is present until its shard is joined.
use Rattle.bfd_engine.proofs.Common.{length, ap, arith}
use Rattle.bfd_engine.proofs.Gluing.{theirs_there, glue_more, all_joined}
use Rattle.bfd_engine.proofs.engine.Engine.join.Goals as goal

pub join_at-requires-clause-here : goal.join_at-requires-clause-here
join_at-requires-clause-here g c =
    theirs_there c.args.other.0 c.loop-at.at c.args.first.now.1 c.args.other.1 c.loop-at.first.1 c.loop-at.other.1 c.loop-at.invariant.glued
    c.requires.there.1
    (let v = ap (λ e. length e.locks) c.self.view_is in omega (arith, c.len-at-end.ensures, c.loop-at-test.true, c.requires.of.1.long))

pub loop-at-preserved : goal.loop-at-preserved
loop-at-preserved g c =
    let i = c.loop-at.invariant in record {
      of = c.join_at.ensures.of.0;
      theirs_of = c.join_at.ensures.of.1;
      there = c.join_at.ensures.there;
      number = c.join_at.ensures.numbers.0;
      theirs = cc;
      used = cc;
      glued = glue_more c.args.other.0 c.loop-at.at c.args.first.now.1 c.args.other.1 c.loop-at.first.1 c.loop-at.other.1
          c.join_at.new.first.1 c.join_at.new.other.1 i.glued
          (rw (← i.theirs) c.join_at.ensures.glued);
    }

pub returns-clause-joined : goal.returns-clause-joined
returns-clause-joined g c =
    let i = c.loop-at.invariant in
    all_joined c.args.first.now c.args.other c.loop-at.first c.loop-at.at (length c.args.self.now.locks) _ i.glued
    (let v = ap (λ e. length e.locks) c.self.view_is in omega (arith, c.len-at-end.ensures, c.loop-at-test.false, c.loop-at.auto.at-end))
    c.requires.numbers.0 i.number
