-- The walk begins behind the head, goes on by each visit, and ends at the head or after as many steps as there are ids.
use Rattle.bfd_wheel.proofs.Common.{refl, sym, ◌∙◌, inl, inr, arith, next_in}
use Rattle.bfd_wheel.proofs.TakenIds.{took_none, took_then}
use Rattle.bfd_wheel.proofs.Wheels.{linked}
use Rattle.bfd_wheel.proofs.Walk.{walk_begins, walk_id, walk_on, walk_ends}
use Rattle.bfd_wheel.proofs.take.collect.Goals as goal

pub loop-init : goal.loop-init
unfolding next_in
loop-init c = record {
  walk = walk_begins c.args.t c.requires.wheel c.head_of-head.ensures.head c.head_of-head.ensures.end;
  took = took_none c.args.t c.args.dues.now c.args.out.now.items;
  room = refl;
  spare = c.requires.room;
}

pub bounds-nodes-cur : goal.bounds-nodes-cur
bounds-nodes-cur c = omega arith

pub visit-requires-clause-linked : goal.visit-requires-clause-linked
visit-requires-clause-linked c = linked c.loop.invariant.walk.wheel (walk_id c.loop.invariant.walk c.if-cur-head.false)
    c.loop.invariant.walk.on.there

pub loop-preserved : goal.loop-preserved
unfolding next_in
loop-preserved c = record {
  walk = walk_on c.loop.invariant.walk (walk_id c.loop.invariant.walk c.if-cur-head.false)
      c.visit.auto.nodes c.visit.ensures.dues_kept c.visit.ensures.nodes_kept c.visit.ensures.gone c.visit.ensures.links;
  took = took_then _ _ _ _ _ _ _ c.loop.invariant.took c.visit.ensures.took;
  room = cc;
  spare = c.visit.ensures.spare;
}

pub returns-then-cur-head-clause-wheel : goal.returns-then-cur-head-clause-wheel
returns-then-cur-head-clause-wheel c = c.loop.invariant.walk.wheel

pub returns-then-cur-head-clause-took : goal.returns-then-cur-head-clause-took
returns-then-cur-head-clause-took c = c.loop.invariant.took

pub returns-then-cur-head-clause-left : goal.returns-then-cur-head-clause-left
returns-then-cur-head-clause-left c = λ j near there at.
    walk_ends _ _ _ _ _ _ _ _ c.loop.invariant.walk c.head_of-head.ensures.head (inl c.if-cur-head.true) j near there
    (at ∙ sym c.head_of-head.ensures.place)

pub returns-clause-wheel : goal.returns-clause-wheel
returns-clause-wheel c = c.loop.invariant.walk.wheel

pub returns-clause-took : goal.returns-clause-took
returns-clause-took c = c.loop.invariant.took

pub returns-clause-left : goal.returns-clause-left
returns-clause-left c = λ j near there at.
    walk_ends _ _ _ _ _ _ _ _ c.loop.invariant.walk c.head_of-head.ensures.head (inr c.loop-test.false) j near there
    (at ∙ sym c.head_of-head.ensures.place)
