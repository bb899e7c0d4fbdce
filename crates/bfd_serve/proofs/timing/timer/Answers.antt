-- The timer's ticks: each leaves what was done so far, or ends it by its cause.
use Rattle.bfd_serve.proofs.Common.{rules, ◌≡◌, ap, refl, inl, inr, arith}
use Rattle.bfd_serve.proofs.Ticking.{ticking_start, ticking_more, timed_cut, timed_fault, timed_finish, timed_idle, timed_without}
use Rattle.bfd_serve.proofs.timing.timer.Goals as goal

pub returns-in_default-clause-timed : goal.returns-in_default-clause-timed
returns-in_default-clause-timed g c = timed_without c.args.engine.now c.args.pass.now (g.L.Link.observed c.args.link.now)
    (g.T.Ticker.observed c.args.ticker.now) c.args.orders.now c.args.ticks c.requires.open (c.is_idle.ensures.some c.if-is_idle.false)

pub returns-then-is_idle-clause-timed : goal.returns-then-is_idle-clause-timed
returns-then-is_idle-clause-timed g c = let none = c.is_idle.ensures.none c.if-is_idle.true in
    timed_idle c.args.engine.now c.args.pass.now (g.L.Link.observed c.args.link.now) (g.T.Ticker.observed c.args.ticker.now)
    c.args.orders.now
    c.args.ticks c.requires.open none.0 none.1

pub returns-in_default-make-clause-timed : goal.returns-in_default-make-clause-timed
returns-in_default-make-clause-timed g c = timed_without c.args.engine.now c.args.pass.now (g.L.Link.observed c.args.link.now)
    (g.T.Ticker.observed c.args.ticker.now) c.args.orders.now c.args.ticks c.requires.open (c.is_idle.ensures.some c.if-is_idle.false)

pub loop-count-init : goal.loop-count-init
loop-count-init g c = record {
  of = c.requires.of;
  there = c.requires.there;
  room = search rules;
  ticking = ticking_start c.args.engine.now c.args.pass.now (g.L.Link.observed c.args.link.now) (g.T.Ticker.observed c.args.ticker.now)
      c.args.orders.now c.requires.open;
}

pub returns-in-Failed-clause-timed : goal.returns-in-Failed-clause-timed
returns-in-Failed-clause-timed g c = timed_fault c.args.engine.now c.loop-count.invariant.ticking c.in-Failed.ensures.after (omega arith)

pub returns-in-Ended-clause-timed : goal.returns-in-Ended-clause-timed
returns-in-Ended-clause-timed g c = let is = c.in-Ended.ensures.after in
    timed_finish c.args.engine.now c.loop-count.invariant.ticking
    (ap (λ x. x.ticks) is) (ap (λ x. x.gave) is) (ap (λ x. x.faults) is) (omega arith) (inl (ap (λ x. x.over) is))
    c.finish-end.ensures.finished

pub returns-clause-timed : goal.returns-clause-timed
returns-clause-timed g c = let n : c.loop-count.count ≡ c.args.ticks = omega arith in
    timed_finish c.args.engine.now c.loop-count.invariant.ticking refl refl refl (omega (arith, n)) (inr n) c.finish-end-2.ensures.finished

pub returns-in-Err-clause-timed : goal.returns-in-Err-clause-timed
returns-in-Err-clause-timed g c =
    timed_cut c.args.engine.now c.in-Got.tick c.loop-count.invariant.ticking c.in-Got.ensures.after c.in-Err.ensures.done (omega arith)

pub loop-count-preserved : goal.loop-count-preserved
loop-count-preserved g c = let i = c.loop-count.invariant in record {
  of = c.in_default-ticked.ensures.of;
  there = c.in_default-ticked.ensures.there;
  room = rw c.in_default-ticked.ensures.room i.room;
  ticking = ticking_more c.args.engine.now c.in-Got.tick i.ticking c.in-Got.ensures.after c.in_default-ticked.ensures.done (cc);
}
