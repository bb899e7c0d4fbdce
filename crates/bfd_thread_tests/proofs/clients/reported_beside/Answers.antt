-- The jobs are those that came back, and the first pass is open after the last poll.
use Rattle.std.proofs.Common.{map}
use Rattle.bfd_thread_tests.specs.Ready.{number_of}
use Rattle.bfd_shard.proofs.Lists.{whole_back}
use Rattle.bfd_thread_tests.proofs.Following.{open_grown}
use Rattle.bfd_thread_tests.proofs.clients.reported_beside.Goals as goal

pub finish-requires-clause-passes : goal.finish-requires-clause-passes
finish-requires-clause-passes g c =
    rw (whole_back c.beside.new.jobs c.add_job.new.jobs.items c.add_job.new.jobs.len (cc) c.add_job.new.jobs.ok.0)
    (open_grown c.in_ok-engine.engine c.beside.new.first c.poll.new.pass (map number_of c.beside.new.jobs) c.beside.ensures.passes
    c.poll.ensures.grown c.poll.ensures.of c.poll.ensures.there)

pub finish-requires-clause-ready : goal.finish-requires-clause-ready
finish-requires-clause-ready g c =
    rw (whole_back c.beside.new.jobs c.add_job.new.jobs.items c.add_job.new.jobs.len (cc) c.add_job.new.jobs.ok.0) c.beside.ensures.ready
