-- What all did, by the closed shards.
use Rattle.bfd_serve.proofs.Closings.{each_joined, have_run, unspent, closed_shards}
use Rattle.bfd_serve.proofs.Theirs.{theirs_after, theirs_same}
use Rattle.bfd_serve.proofs.run.running.run_all.Goals as goal

pub returns-in-Err-clause-theirs : goal.returns-in-Err-clause-theirs
returns-in-Err-clause-theirs g c = theirs_same g.L.Link.observed c.args.links.items c.in-Err.links.items c.in-Err.ensures.refused.2
    c.in-Err.ensures.refused.0 c.requires.theirs

pub returns-in-Ok-serve-clause-theirs : goal.returns-in-Ok-serve-clause-theirs
returns-in-Ok-serve-clause-theirs g c = theirs_after g.L.Link.observed c.serve.new.own c.args.links.items c.in-Ok-serve.served.links.items
    c.in-Ok-serve.ensures.served c.requires.theirs

pub close-states-requires-clause-joined : goal.close-states-requires-clause-joined
close-states-requires-clause-joined g c = each_joined c.args.engine c.serve.new.first c.in-Ok-serve.ensures.served.made

pub returns-in-Ok-serve-clause-run : goal.returns-in-Ok-serve-clause-run
returns-in-Ok-serve-clause-run g c =
    have_run g.L.Link.observed c.args.engine c.serve.new.first c.args.own.now c.serve.new.own (g.T.Ticker.observed c.args.ticker.now)
    (g.T.Ticker.observed c.serve.new.ticker)
    c.args.orders.now c.args.limits c.args.links.items c.in-Ok-serve.served.links.items c.in-Ok-serve.served.ends.items
    c.in-Ok-serve.served.lost c.close-states.result.items
    c.in-Ok-serve.ensures.served c.serve.ensures.of c.serve.ensures.number c.close-states.ensures.closed c.requires.few c.requires.turns
    c.requires.ticks c.requires.orders

pub returns-in-Ok-serve-clause-closed : goal.returns-in-Ok-serve-clause-closed
returns-in-Ok-serve-clause-closed g c = closed_shards c.close-states.ensures.closed c.deref.ensures.value c.keep.ensures

pub returns-in-Ok-serve-clause-unspent : goal.returns-in-Ok-serve-clause-unspent
returns-in-Ok-serve-clause-unspent g c =
    unspent g.L.Link.observed c.args.engine c.serve.new.first c.args.own.now c.serve.new.own (g.T.Ticker.observed c.args.ticker.now)
    (g.T.Ticker.observed c.serve.new.ticker)
    c.args.orders.now c.args.limits c.args.links.items c.in-Ok-serve.served.links.items c.in-Ok-serve.served.ends.items
    c.in-Ok-serve.served.lost c.close-states.result.items
    c.in-Ok-serve.ensures.served c.serve.ensures.of c.serve.ensures.number c.close-states.ensures.closed c.requires.few c.requires.turns
    c.requires.ticks c.requires.orders
