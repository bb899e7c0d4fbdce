-- A worker's turns: each leaves what was done so far, or ends the worker by its cause.
use Rattle.bfd_serve.proofs.Common.{rules, arith}
use Rattle.bfd_serve.proofs.Turning.{working_start, working_quiet, working_got, worked_without, working_over, working_fault, working_memory}
use Rattle.bfd_serve.proofs.Turning.{working_turns}
use Rattle.bfd_serve.proofs.working.worker.Goals as goal
use Rattle.bfd_serve.proofs.working.worker.Goals.{in-Quiet, in-Got+in_default-handled}

pub returns-in_default-clause-worked : goal.returns-in_default-clause-worked
returns-in_default-clause-worked g c = worked_without c.args.engine.now c.args.pass.now (g.L.Link.observed c.args.link.now) c.args.turns
    c.requires.open (omega arith)

pub returns-then-turns-eq0-clause-worked : goal.returns-then-turns-eq0-clause-worked
returns-then-turns-eq0-clause-worked g c = working_turns c.args.engine.now
    (working_start c.args.engine.now c.args.pass.now (g.L.Link.observed c.args.link.now) c.requires.open) (omega arith)

pub returns-in-Err-clause-worked : goal.returns-in-Err-clause-worked
returns-in-Err-clause-worked g c = let t = g.L.Link.observed in
    (working_got c.args.engine.now _ _ c.handle-handled.new.pass _ _ _ (t c.handle-handled.new.link)
    _ c.in-Got.moment c.in-Got.arrival _ c.handle-handled.new.lost c.handle-handled.result c.loop-turn.invariant.working c.in-Got.ensures
    c.handle-handled.ensures.done).1 c.args.turns c.in-Err.end c.loop-turn-test.true c.in-Err.is

pub loop-turn-init : goal.loop-turn-init
loop-turn-init g c = record {
  of = c.requires.of;
  there = c.requires.there;
  room = search rules;
  working = working_start c.args.engine.now c.args.pass.now (g.L.Link.observed c.args.link.now) c.requires.open;
}

pub loop-turn-preserved : goal.loop-turn-preserved
loop-turn-preserved g c = let t = g.L.Link.observed in let i = c.loop-turn.invariant in elim c.match-receive.branch [
  | in-Got+in_default-handled w ↦ rw (w.pass-is, w.link-is, w.lost-is, w.outs-is) (record {
    of = w.handle-handled.ensures.of;
    there = w.handle-handled.ensures.there;
    room = rw w.handle-handled.ensures.room i.room;
    working = (working_got c.args.engine.now _ _ w.handle-handled.new.pass _ _ _ (t w.handle-handled.new.link)
        _ w.in-Got.moment w.in-Got.arrival _ w.handle-handled.new.lost w.handle-handled.result i.working w.in-Got.ensures
        w.handle-handled.ensures.done).0 w.in_default-handled.field-0 w.in_default-handled.is;
  })
  | in-Quiet w ↦ rw (w.pass-is, w.link-is, w.lost-is, w.outs-is) (record {
    of = i.of;
    there = i.there;
    room = i.room;
    working = working_quiet c.args.engine.now i.working w.in-Quiet.ensures;
  })
]

pub returns-in-Ended-clause-worked : goal.returns-in-Ended-clause-worked
returns-in-Ended-clause-worked g c = working_over c.args.engine.now c.loop-turn.invariant.working (omega arith) c.in-Ended.ensures

pub returns-in-Failed-clause-worked : goal.returns-in-Failed-clause-worked
returns-in-Failed-clause-worked g c = working_fault c.args.engine.now c.loop-turn.invariant.working (omega arith) c.in-Failed.ensures

pub returns-in-Memory-clause-worked : goal.returns-in-Memory-clause-worked
returns-in-Memory-clause-worked g c = working_memory c.args.engine.now c.loop-turn.invariant.working (omega arith) c.in-Memory.ensures

pub returns-clause-worked : goal.returns-clause-worked
returns-clause-worked g c = working_turns c.args.engine.now c.loop-turn.invariant.working (omega arith)
