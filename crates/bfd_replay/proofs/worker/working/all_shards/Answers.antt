-- One more shard.
use Rattle.bfd_replay.proofs.WorkerCommon.{rules, ◌≡◌, ◌<◌, ◌++◌, ◌∙◌, ◌∷◌, [], List, ap, length, append_assoc, length-append, arith}
use Rattle.bfd_replay.proofs.Courses.{over_end, over_finished, over_more, over_left, stopped_here, next_queue}
use Rattle.bfd_replay.proofs.worker.working.all_shards.Goals as goal

split_on : {X : Type 0} (xs : List X) {left rest all : List X} {x : X} → left ≡ x ∷ rest → xs ++ left ≡ all → xs ++ x ∷ rest ≡ all
split_on xs next is = cc

pub one_shard-requires-clause-met : goal.one_shard-requires-clause-met
one_shard-requires-clause-met g c =
    let i = c.loop-queue.invariant in
    let n : c.len-shard.result ≡ length c.loop-queue.parts.items = search rules in
    let here = next_queue c.loop-queue.yielded c.next.new.self.rest.items _ c.in-Some.queue _
    (split_on c.loop-queue.yielded c.in-Some.ensures.steps.0 i.all) i.long in
    let inside : length c.loop-queue.parts.items < length c.args.engine.now.locks =
    omega (arith, here.0, c.requires.ready.long) in
    rw n (rw (← here.1) (c.requires.ready.met (length c.loop-queue.parts.items) inside))

pub returns-in-Err-clause-left : goal.returns-in-Err-clause-left
returns-in-Err-clause-left g c =
    let i = c.loop-queue.invariant in
    let here = next_queue c.loop-queue.yielded c.next.new.self.rest.items _ c.in-Some.queue c.len-shard.result
    (split_on c.loop-queue.yielded c.in-Some.ensures.steps.0 i.all) (omega (arith, c.len-shard.ensures, i.long)) in
    over_left _ _ _ _ _ _ _ _
    (search rules) here.1 i.over c.one_shard.ensures.of c.one_shard.ensures.there c.one_shard.ensures.elsewhere c.one_shard.ensures.used

pub returns-in-Err-clause-stopped : goal.returns-in-Err-clause-stopped
returns-in-Err-clause-stopped g c =
    let here = next_queue c.loop-queue.yielded c.next.new.self.rest.items _ c.in-Some.queue c.len-shard.result
    (split_on c.loop-queue.yielded c.in-Some.ensures.steps.0 c.loop-queue.invariant.all)
    (omega (arith, c.len-shard.ensures, c.loop-queue.invariant.long)) in
    let inside : c.len-shard.result < length c.args.engine.now.locks =
    omega (arith, here.0, c.requires.ready.long) in
    stopped_here c.in-Err.fault c.args.engine.now c.args.queues.items c.one_shard.new.pass inside here.1 c.in-Err.ensures.stopped

pub returns-in_default-clause-left : goal.returns-in_default-clause-left
returns-in_default-clause-left g c =
    let i = c.loop-queue.invariant in
    let here = next_queue c.loop-queue.yielded c.next.new.self.rest.items _ c.in-Some.queue c.len-shard.result
    (split_on c.loop-queue.yielded c.in-Some.ensures.steps.0 i.all) (omega (arith, c.len-shard.ensures, i.long)) in
    over_left _ _ _ _ _ _ _ _
    (search rules) here.1 i.over c.one_shard.ensures.of c.one_shard.ensures.there c.one_shard.ensures.elsewhere c.one_shard.ensures.used

pub loop-queue-preserved : goal.loop-queue-preserved
loop-queue-preserved g c =
    let i = c.loop-queue.invariant in
    let here = next_queue c.loop-queue.yielded c.next.new.self.rest.items _ c.in-Some.queue c.len-shard.result
    (split_on c.loop-queue.yielded c.in-Some.ensures.steps.0 i.all) (omega (arith, c.len-shard.ensures, i.long)) in
    let more = c.in-Ok-push.ensures.items in
    record {
      can = tt;
      ends = tt;
      all = append_assoc c.loop-queue.yielded (c.in-Some.queue ∷ []) c.next.new.self.rest.items
          ∙ split_on c.loop-queue.yielded c.in-Some.ensures.steps.0 i.all;
      long =
          omega (
            arith,
            ap length more,
            length-append c.loop-queue.parts.items (c.one_shard.new.part ∷ []),
            length-append c.loop-queue.yielded (c.in-Some.queue ∷ []),
            i.long,
          );
      room = cc;
      over = over_more _ _ _ _ _ _ _ _ _ _ (search rules) here.1 more i.over c.one_shard.ensures.of c.one_shard.ensures.there
          c.one_shard.ensures.elsewhere
          c.one_shard.ensures.used c.in-Ok.ensures.done;
    }

pub returns-clause-left : goal.returns-clause-left
returns-clause-left g c = over_end c.loop-queue.invariant.over

pub returns-clause-done : goal.returns-clause-done
returns-clause-done g c =
    let i = c.loop-queue.invariant in
    let left : c.loop-queue.queue-iterator.rest.len ≡ length c.loop-queue.queue-iterator.rest.items = search rules in
    over_finished i.over (omega (
      arith,
      i.long,
      ap length i.all,
      length-append c.loop-queue.yielded c.loop-queue.queue-iterator.rest.items,
      c.requires.ready.long,
      c.in-None.ensures.steps.0,
      left,
    ))
