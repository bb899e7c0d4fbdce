use Rattle.bfd_levels.proofs.Common.{◌≡◌, ◌+◌, length, ap, refl, arith, took_none, took_then, reach, at_tick, loads}
use Rattle.bfd_levels.proofs.Paid.{paid_more}
use Rattle.bfd_levels.proofs.Ticks.{reached_till, reached_more, reached_few}
use Rattle.bfd_levels.proofs.tick.forward.Goals as goal

pub loop-before-init : goal.loop-before-init
loop-before-init g c = record {
  paid = record { placed = c.requires.placed; cost = omega arith };
  took = took_none c.args.t c.args.dues.now c.args.out.now.items;
  room = refl;
  spare = c.requires.room;
}

pub loop-before-preserved : goal.loop-before-preserved
loop-before-preserved g c = record {
  paid = paid_more (length c.args.dues.now) (length c.loop-before.dues) (c.loop-before.steps + reached_till c.args.now)
      (c.turn.new.steps + reached_till c.args.now) _ _ (reach (c.loop-before.before + 1))
      (λ n. at_tick n c.loop-before.before c.loop-before.dues) (λ n. at_tick n (c.loop-before.before + 1) c.turn.new.dues)
      c.loop-before.dues c.turn.new.dues c.loop-before.nodes c.turn.new.nodes c.loop-before.auto.dues c.loop-before.invariant.paid
      c.turn.ensures.placed
      (omega (arith, c.turn.ensures.cost)) (omega (arith, reached_more c.loop-before.before));
  took = took_then _ _ _ _ _ _ _ c.loop-before.invariant.took c.turn.ensures.took;
  room = cc;
  spare = c.turn.ensures.spare;
}

pub returns-clause-took : goal.returns-clause-took
returns-clause-took g c = took_then _ _ _ _ _ _ _ c.loop-before.invariant.took c.overdue.ensures.took

pub returns-clause-cost : goal.returns-clause-cost
returns-clause-cost g c =
    let same = c.loop-before.auto.dues in
    let left_is = ap (λ n. loads n (at_tick n c.args.t c.overdue.new.dues) c.overdue.new.dues) same in
    let was_is = ap (λ n. loads n (at_tick n c.args.t c.loop-before.dues) c.loop-before.dues) same in
    let here : c.loop-before.before ≡ c.args.t = omega (arith, c.loop-before-test.false, c.loop-before.auto.before-end, c.requires.later) in
    let at_t = ap (λ b. loads (length c.args.dues.now) (at_tick (length c.args.dues.now) b c.loop-before.dues) c.loop-before.dues) here in
    omega (
      arith,
      c.overdue.ensures.cost,
      ap reached_till here,
      reached_few c.requires.later c.requires.near,
      c.loop-before.invariant.paid.cost,
    )
