-- Threads may share the engine; each is given a job and leaves it done.
use denote.Param.{param}
use Rattle.std.proofs.Common.{rules}
use Rattle.std.proofs.Crossing.{sync}
use Rattle.std.proofs.lemmas.List.Elements.{All-get_or}
use Rattle.bfd_engine.proofs.Crossing.{engine_sync}
use Rattle.bfd_thread_tests.specs.Ready.{IsJobReady}
use Rattle.bfd_thread_tests.proofs.Worked.{numbers_each}
use Rattle.bfd_thread_tests.proofs.embedding.threads.at_once.Goals as goal

pub for_each_mut-requires-clause-accepts : goal.for_each_mut-requires-clause-accepts
for_each_mut-requires-clause-accepts g c κs within = λ i p inside is. rw is
    (All-get_or (λ j. IsJobReady c.args.engine.now j) c.args.jobs.now i p.now inside c.requires)

pub for_each_mut-requires-sync-F : goal.for_each_mut-requires-sync-F
for_each_mut-requires-sync-F g c κs within =
    record {
      shared = λ x b o κ. (
        (
          ((λ q. tt), c.type_bounds.sync-R.shared x.0.now x.0.ref_ptr.0 x.0.ref_ptr.1 _),
          (
            ((λ q. tt), sync.shared x.1.now x.1.ref_ptr.0 x.1.ref_ptr.1 κ),
            (
              (
                (λ q. tt),
                (engine_sync (param 0 g.row.W) g.W.Timers g.W.Timers-dict g.W.Destruct-dict c.type_bounds.send-W).shared x.2.now
                    x.2.ref_ptr.0 x.2.ref_ptr.1 _,
              ),
              tt,
            ),
          ),
        ),
        (λ q. tt),
      );
    }

pub returns-clause-each : goal.returns-clause-each
returns-clause-each g c = λ i d h. let k = (c.for_each_mut.ensures i d h).1 in
    rw (← k.argument_is) (rw (← k.left) k.call)

pub returns-clause-numbers : goal.returns-clause-numbers
returns-clause-numbers g c = numbers_each c.args.jobs.now c.for_each_mut.new.s (search rules) (returns-clause-each g c)
