-- Each job is worked on by one thread.
use Rattle.bfd_serve.proofs.Common.{sym, subst, All-get_or, IsReady, u64, param, sendable, IsSync, engine_sync}
use Rattle.std.proofs.Crossing as heap
use Rattle.bfd_serve.proofs.threads.work_all.Goals as goal

-- the closure lends what it captures, in this order
pub for_each_mut-requires-sync-F : goal.for_each_mut-requires-sync-F
for_each_mut-requires-sync-F g c κs within =
    let n : IsSync u64 = search sendable depth 20 in
    record {
      shared = λ x b o κ. (
        (
          ((λ q. tt), c.type_bounds.sync-R.shared x.0.now x.0.ref_ptr.0 x.0.ref_ptr.1 _),
          (
            ((λ q. tt), heap.sync.shared x.1.now x.1.ref_ptr.0 x.1.ref_ptr.1 κ),
            (
              (
                (λ q. tt),
                (engine_sync (param 0 g.row.W) g.W.Timers g.W.Timers-dict g.W.Destruct-dict c.type_bounds.send-W).shared x.2.now
                    x.2.ref_ptr.0 x.2.ref_ptr.1 _,
              ),
              (
                ((λ q. tt), c.type_bounds.sync-G.shared x.3.now x.3.ref_ptr.0 x.3.ref_ptr.1 _),
                (((λ q. tt), n.shared x.4.now x.4.ref_ptr.0 x.4.ref_ptr.1 κ), tt),
              ),
            ),
          ),
        ),
        λ q. tt,
      );
    }

pub for_each_mut-requires-clause-accepts : goal.for_each_mut-requires-clause-accepts
for_each_mut-requires-clause-accepts g c κs within = λ i p inside is. subst (IsReady g.L.Link.observed c.args.engine.now) (sym is)
    (All-get_or (IsReady g.L.Link.observed c.args.engine.now) c.args.jobs.now i p.now inside c.requires)

pub returns-clause-worked : goal.returns-clause-worked
returns-clause-worked g c = λ i d h. let k = (c.for_each_mut.ensures i d h).1 in
    rw (← k.argument_is) (rw (← k.left) k.call)
