-- The orders that are due, and then the shards.
use Rattle.bfd_serve.proofs.Common.{length, advances}
use Rattle.bfd_serve.proofs.Doing.{done_then, stopped_less}
use Rattle.bfd_serve.proofs.timing.on_tick.Goals as goal

pub returns-in-Err-clause-done : goal.returns-in-Err-clause-done
returns-in-Err-clause-done g c = let e = c.args.engine.now in
    rw (← c.requires.due) (stopped_less e (advances (length e.locks) c.args.tick) c.in-Err.ensures.done)

pub returns-clause-done : goal.returns-clause-done
returns-clause-done g c = let e = c.args.engine.now in
    rw (← c.requires.due) (done_then e (advances (length e.locks) c.args.tick) c.advance_all.new.pass
    (g.L.Link.observed c.advance_all.new.link)
    c.advance_all.new.lost c.advance_all.result
    c.in_default.ensures.done c.advance_all.ensures.done)
