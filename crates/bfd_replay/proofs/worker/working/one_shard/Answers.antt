-- One more event of the queue.
use Rattle.bfd_replay.proofs.WorkerCommon.{subst, AreMet}
use Rattle.bfd_replay.proofs.Courses.{queue_more, stopped_amid}
use Rattle.bfd_replay.proofs.worker.working.one_shard.Goals as goal

pub events-preserved : goal.events-preserved
events-preserved g c =
    let i = c.events.invariant in
    let split = c.in-Some.ensures.first in
    record {
      of = c.one_event.ensures.of;
      there = c.one_event.ensures.there;
      met = (subst (AreMet c.args.engine.now c.args.shard) split i.met).1;
      room = cc;
      did = queue_more split i.did c.one_event.ensures.elsewhere c.one_event.ensures.taken c.in-Ok.ensures.reported;
    }

pub returns-in-Err-clause-stopped : goal.returns-in-Err-clause-stopped
returns-in-Err-clause-stopped g c =
    stopped_amid c.in-Err.fault c.in-Some.ensures.first c.events.invariant.did c.one_event.ensures.elsewhere c.in-Err.ensures.refused
