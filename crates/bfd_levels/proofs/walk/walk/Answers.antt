-- The walk begins behind the head, goes on by each visit, and ends at the head or after as many nodes as there are ids.
use Rattle.bfd_levels.proofs.Common.{length, refl, ◌+◌, inl, inr, arith, next_in, took_none, took_then, place, midway, at_midway, loads}
use Rattle.bfd_levels.proofs.Walks.{walk_begins, walk_id}
use Rattle.bfd_levels.proofs.Visits.{visit_rises, walk_can_move, walk_visits, level_placed, level_spent, level_left}
use Rattle.bfd_levels.proofs.walk.walk.Goals as goal

pub loop-init : goal.loop-init
unfolding next_in
loop-init g c = record {
  walk = walk_begins c.args.t c.tick.new.self (midway (length c.args.dues.now) c.args.before c.args.tick c.args.level)
      (place (length c.args.dues.now) c.args.tick) c.requires.placed c.head_at-head.ensures.head c.head_at-head.ensures.end;
  took = took_none c.args.t c.args.dues.now c.args.out.now.items;
  room = refl;
  spare = c.requires.room;
  rises = omega arith;
}

pub visit-requires-clause-movable : goal.visit-requires-clause-movable
visit-requires-clause-movable g c =
    walk_can_move (length c.args.dues.now) c.args.tick c.head_at-head.result c.args.t c.loop.steps 0 _ (midway (length c.args.dues.now)
    c.args.before c.args.tick c.args.level) c.loop.dues c.loop.nodes c.loop.cur c.loop.counter c.loop.invariant.walk
    (walk_id (length c.args.dues.now) 1026 c.head_at-head.result c.args.t c.loop.steps _
    (midway (length c.args.dues.now) c.args.before c.args.tick c.args.level) (place (length c.args.dues.now) c.args.tick) c.loop.dues
    c.loop.nodes c.loop.cur c.loop.counter c.loop.invariant.walk c.if-cur-head.false)

pub loop-preserved : goal.loop-preserved
unfolding next_in
loop-preserved g c = record {
  walk = walk_visits (length c.args.dues.now) c.args.tick c.head_at-head.result c.args.t c.loop.steps c.visit.new.steps _ (midway (length
      c.args.dues.now) c.args.before c.args.tick c.args.level) c.loop.dues c.loop.nodes c.loop.cur c.loop.counter c.loop.invariant.walk
      (walk_id (length c.args.dues.now) 1026 c.head_at-head.result c.args.t c.loop.steps _
      (midway (length c.args.dues.now) c.args.before c.args.tick c.args.level) (place (length c.args.dues.now) c.args.tick) c.loop.dues
      c.loop.nodes c.loop.cur c.loop.counter c.loop.invariant.walk c.if-cur-head.false) c.args.level c.args.before c.loop.auto.dues
      c.head_at-head.ensures.slot c.visit.auto.nodes c.requires.down c.visit.ensures.visit;
  took = took_then _ _ _ _ _ _ _ c.loop.invariant.took c.visit.ensures.took;
  room = cc;
  spare = c.visit.ensures.spare;
  rises = omega (arith, c.loop.invariant.rises, visit_rises c.visit.ensures.visit);
}

pub returns-then-cur-head-clause-placed : goal.returns-then-cur-head-clause-placed
returns-then-cur-head-clause-placed g c =
    level_placed (length c.args.dues.now) c.args.before c.args.tick c.args.level c.head_at-head.result c.args.t c.loop.steps _ c.loop.dues
    c.loop.nodes c.loop.cur c.loop.counter c.loop.invariant.walk c.head_at-head.ensures.slot c.head_at-head.ensures.head
    (inl c.if-cur-head.true)

pub returns-then-cur-head-clause-cost : goal.returns-then-cur-head-clause-cost
returns-then-cur-head-clause-cost g c =
    omega (
      arith,
      c.tick.ensures,
      level_spent (length c.args.dues.now) c.args.before c.args.tick c.args.level c.head_at-head.result c.args.t
          c.loop.steps (c.tick.new.self + loads (length c.args.dues.now) (at_midway (length c.args.dues.now) c.args.before c.args.tick
          c.args.level c.args.dues.now) c.args.dues.now) c.loop.dues c.loop.nodes c.loop.cur c.loop.counter c.loop.invariant.walk
          c.head_at-head.ensures.slot c.head_at-head.ensures.head (inl c.if-cur-head.true),
    )

pub returns-then-cur-head-clause-left : goal.returns-then-cur-head-clause-left
returns-then-cur-head-clause-left g c =
    level_left (length c.args.dues.now) c.args.before c.args.tick c.args.level c.head_at-head.result c.args.t c.loop.steps _ c.loop.dues
    c.loop.nodes c.loop.cur c.loop.counter c.loop.invariant.walk c.head_at-head.ensures.slot c.head_at-head.ensures.head
    (inl c.if-cur-head.true)

pub returns-clause-placed : goal.returns-clause-placed
returns-clause-placed g c =
    level_placed (length c.args.dues.now) c.args.before c.args.tick c.args.level c.head_at-head.result c.args.t c.loop.steps _ c.loop.dues
    c.loop.nodes c.loop.cur c.loop.counter c.loop.invariant.walk c.head_at-head.ensures.slot c.head_at-head.ensures.head
    (inr c.loop-test.false)

pub returns-clause-cost : goal.returns-clause-cost
returns-clause-cost g c =
    omega (
      arith,
      c.tick.ensures,
      level_spent (length c.args.dues.now) c.args.before c.args.tick c.args.level c.head_at-head.result c.args.t
          c.loop.steps (c.tick.new.self + loads (length c.args.dues.now) (at_midway (length c.args.dues.now) c.args.before c.args.tick
          c.args.level c.args.dues.now) c.args.dues.now) c.loop.dues c.loop.nodes c.loop.cur c.loop.counter c.loop.invariant.walk
          c.head_at-head.ensures.slot c.head_at-head.ensures.head (inr c.loop-test.false),
    )

pub returns-clause-left : goal.returns-clause-left
returns-clause-left g c =
    level_left (length c.args.dues.now) c.args.before c.args.tick c.args.level c.head_at-head.result c.args.t c.loop.steps _ c.loop.dues
    c.loop.nodes c.loop.cur c.loop.counter c.loop.invariant.walk c.head_at-head.ensures.slot c.head_at-head.ensures.head
    (inr c.loop-test.false)
