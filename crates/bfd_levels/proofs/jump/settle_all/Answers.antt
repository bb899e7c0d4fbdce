use Rattle.bfd_levels.proofs.Common.{◌+◌, ◌*◌, length, arith, at_tick, at_jump, loads}
use Rattle.bfd_levels.proofs.Jumps.{jump_begins, jump_ends}
use Rattle.bfd_levels.proofs.Paid.{paid_renamed}
use Rattle.bfd_levels.proofs.jump.settle_all.Goals as goal

pub loop-id-init : goal.loop-id-init
loop-id-init g c = record {
  paid = paid_renamed (length c.args.dues.now) c.args.steps.now _ (at_tick (length c.args.dues.now) c.args.now c.args.dues.now)
      (at_jump (length c.args.dues.now) c.args.now c.args.t 0 c.args.dues.now) c.args.dues.now c.args.nodes.now
      (record { placed = c.requires.placed; cost = omega arith })
      (λ j near there. jump_begins (length c.args.dues.now) c.args.now c.args.t c.args.dues.now j);
}

pub settle-requires-clause-placed : goal.settle-requires-clause-placed
settle-requires-clause-placed g c = c.loop-id.invariant.paid.placed

pub loop-id-preserved : goal.loop-id-preserved
loop-id-preserved g c = record {
  paid = record { placed = c.settle.ensures.placed; cost = omega arith };
}

pub returns-clause-placed : goal.returns-clause-placed
returns-clause-placed g c =
    (paid_renamed (length c.args.dues.now) c.loop-id.steps _ (at_jump (length c.args.dues.now) c.args.now c.args.t c.loop-id.id
    c.args.dues.now) (at_tick (length c.args.dues.now) c.args.t c.args.dues.now) c.args.dues.now c.loop-id.nodes c.loop-id.invariant.paid
    (λ j near there. jump_ends (length c.args.dues.now) c.args.now c.args.t c.loop-id.id c.args.dues.now j
    (let test = c.loop-id-test.false in omega arith))).placed

pub returns-clause-cost : goal.returns-clause-cost
returns-clause-cost g c =
    let paid = paid_renamed (length c.args.dues.now) c.loop-id.steps
    (c.args.steps.now + 2 * c.loop-id.id + loads (length c.args.dues.now) (at_tick (length c.args.dues.now) c.args.now c.args.dues.now)
    c.args.dues.now) (at_jump (length c.args.dues.now) c.args.now c.args.t c.loop-id.id c.args.dues.now)
    (at_tick (length c.args.dues.now) c.args.t c.args.dues.now) c.args.dues.now c.loop-id.nodes c.loop-id.invariant.paid
    (λ j near there. jump_ends (length c.args.dues.now) c.args.now c.args.t c.loop-id.id c.args.dues.now j (omega arith)) in
    omega arith
