use Rattle.bfd_levels.proofs.Common.{◌≡◌, ◌+◌, length, refl, arith, took_none, took_then, reach, at_midway}
use Rattle.bfd_levels.proofs.Midway.{midway_down}
use Rattle.bfd_levels.proofs.Paid.{paid_more}
use Rattle.bfd_levels.proofs.Turns.{turn_begins, turn_ends}
use Rattle.bfd_levels.proofs.tick.turn.Goals as goal

pub loop-level-init : goal.loop-level-init
loop-level-init g c = record {
  paid = turn_begins c.args.before c.args.tick c.args.steps.now c.requires.placed;
  took = took_none c.args.t c.args.dues.now c.args.out.now.items;
  room = refl;
  spare = c.requires.room;
}

pub walk-requires-clause-placed : goal.walk-requires-clause-placed
walk-requires-clause-placed g c = rw c.loop-level.auto.dues c.loop-level.invariant.paid.placed

pub walk-requires-clause-down : goal.walk-requires-clause-down
walk-requires-clause-down g c = λ due above here. midway_down (length c.loop-level.dues) _ _ _ due (omega arith) (omega arith) (omega arith)
    here

pub loop-level-preserved : goal.loop-level-preserved
loop-level-preserved g c = record {
  paid = paid_more (length c.args.dues.now) (length c.loop-level.dues) c.loop-level.steps c.walk.new.steps _ _ 1
      (λ n. at_midway n c.args.before c.args.tick c.loop-level.level c.loop-level.dues)
      (λ n. at_midway n c.args.before c.args.tick (c.loop-level.level + 1) c.walk.new.dues)
      c.loop-level.dues c.walk.new.dues c.loop-level.nodes c.walk.new.nodes c.loop-level.auto.dues c.loop-level.invariant.paid
      c.walk.ensures.placed c.walk.ensures.cost (omega arith);
  took = took_then _ _ _ _ _ _ _ c.loop-level.invariant.took c.walk.ensures.took;
  room = cc;
  spare = c.walk.ensures.spare;
}

pub returns-clause-placed : goal.returns-clause-placed
returns-clause-placed g c = (turn_ends c.args.before c.requires.next
    (let value = c.reached-level-end.ensures.value in let test = c.loop-level-test.false in let end = c.loop-level.auto.level-end in
    omega arith) c.loop-level.invariant.paid).placed

pub returns-clause-cost : goal.returns-clause-cost
returns-clause-cost g c =
    let all : c.loop-level.level ≡ reach c.args.tick =
    omega (arith, c.reached-level-end.ensures.value, c.loop-level-test.false, c.loop-level.auto.level-end) in
    let cost = (turn_ends c.args.before c.requires.next all c.loop-level.invariant.paid).cost in
    omega arith
