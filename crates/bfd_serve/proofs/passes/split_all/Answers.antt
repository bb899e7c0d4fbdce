-- One more pass is split off; or those that were made are joined again.
use Rattle.bfd_serve.proofs.Common.{rules, arith}
use Rattle.bfd_serve.proofs.Splits.{split_none, split_more, split_refused, others_of, unserved}
use Rattle.bfd_serve.proofs.passes.split_all.Goals as goal

pub loop-init : goal.loop-init
loop-init g c = record {
  split = rw c.in_ok-passes.ensures.items (split_none c.args.engine.now c.requires.new);
  used = c.requires.new.used;
  room = search rules;
}

pub loop-preserved : goal.loop-preserved
loop-preserved g c = let i = c.loop.invariant in let new = c.in-Ok.ensures.other in record {
  split = rw c.push_reserved.ensures.items (split_more c.args.engine.now i.split i.used c.split.ensures.of c.split.ensures.there
      c.split.ensures.number new.0 new.1 new.2 c.in-Ok.ensures.parted);
  used = cc;
  room = omega arith;
}

pub join_all-requires-clause-others : goal.join_all-requires-clause-others
join_all-requires-clause-others g c = others_of c.args.engine.now c.loop.passes.items c.loop.invariant.split.each

pub returns-in_default-clause-refused : goal.returns-in_default-clause-refused
returns-in_default-clause-refused g c = let e = c.args.engine.now in
    unserved e
    (split_refused e c.split.new.first c.loop.invariant.split c.in_default.ensures.refused c.split.ensures.of c.split.ensures.there
    c.split.ensures.number)
    c.join_all.ensures.of c.join_all.ensures.there c.join_all.ensures.number c.join_all.ensures.joined
