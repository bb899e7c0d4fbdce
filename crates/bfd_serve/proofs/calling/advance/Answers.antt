-- The one act is a tick of the shard.
use Rattle.bfd_serve.proofs.Common.{rules, Turns}
use Rattle.bfd_shard.specs.declared.entry.ShardEvent.TheVariants.{Tick as TickEvent}
use Rattle.bfd_serve.proofs.Doing.{done_one}
use Rattle.bfd_serve.proofs.calling.advance.Goals as goal

pub returns-clause-done : goal.returns-clause-done
returns-clause-done g c = let t = g.L.Link.observed in
    done_one c.args.engine.now (Turns c.args.shard (TickEvent c.args.tick)) c.args.pass.now c.advance_shard-outcome.new.pass
    (t c.args.link.now) (t c.settle.new.link) c.args.lost.now c.settle.new.lost c.advance_shard-outcome.new.outs.items
    c.advance_shard-outcome.result c.settle.result
    (search rules) (search rules)
