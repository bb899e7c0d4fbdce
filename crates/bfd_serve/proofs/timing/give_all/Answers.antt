-- One more order, or the orders up to one that stopped.
use Rattle.bfd_serve.proofs.Common.{rules, ◌+◌, take, drop, orders_acts, IsStopped}
use Rattle.bfd_serve.proofs.Doing.{whole_then, stopped_then, stopped_less}
use Rattle.bfd_serve.proofs.Ordering.{orders_next, orders_rest}
use Rattle.bfd_serve.proofs.timing.give_all.Goals as goal

pub loop-at-preserved : goal.loop-at-preserved
loop-at-preserved g c = let e = c.args.engine.now in record {
  of = c.give.ensures.of;
  there = c.give.ensures.there;
  room = cc;
  whole = rw (orders_next e c.args.orders.now c.index-orders-at.result c.loop-at-test.true (search rules))
      (whole_then e c.loop-at.invariant.whole c.in_default.ensures.done);
}

pub returns-in-Err-clause-done : goal.returns-in-Err-clause-done
returns-in-Err-clause-done g c = let e = c.args.engine.now in let os = c.args.orders.now in let i = c.loop-at.at in let t =
    g.L.Link.observed in
    let two : IsStopped e (orders_acts e (take (i + 1) os)) c.args.pass.now c.give.new.pass (t c.args.link.now) (t c.give.new.link)
    c.args.lost.now c.give.new.lost c.in-Err.end =
    rw (orders_next e os c.index-orders-at.result c.loop-at-test.true (search rules))
    (stopped_then e c.loop-at.invariant.whole c.in-Err.ensures.done) in
    rw (← orders_rest e os (i + 1)) (stopped_less e (orders_acts e (drop (i + 1) os)) two)
