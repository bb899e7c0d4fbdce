-- The job that was pushed.
use Rattle.std.proofs.Common.{Ok, refl}
use Rattle.bfd_thread_tests.specs.declared.embedding.threads.Job.{Job}
use Rattle.bfd_thread_tests.proofs.Joins.{ready_more}
use Rattle.bfd_thread_tests.proofs.embedding.passes.add_job.Goals as goal

pub returns-clause-added : goal.returns-clause-added
returns-clause-added g c =
    let new = c.in_ok-pass.ensures.other in
    let job : Job = record { pass = c.in_ok-pass.pass; calls = c.args.calls; saw = c.new.result; room = c.args.room; ended = Ok tt } in
    record {
      job = job;
      after_is = cc (c.in_ok-reserve.ensures.items);
      ready = record { of = new.1; there = new.2; room = c.requires.room };
      parted = c.in_ok-pass.ensures.parted;
      calls_are = refl;
      unseen = c.new.ensures.items;
      room_is = refl;
    }

pub returns-clause-ready : goal.returns-clause-ready
returns-clause-ready g c = ready_more c.requires.ready (returns-clause-added g c)
