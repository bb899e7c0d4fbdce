-- One more worker ended with parts.
use Rattle.bfd_replay.proofs.WorkerCommon.{◌≡◌, ◌∷◌, [], length, append_assoc, append-nil, nil_from_length, seen_as}
use Rattle.bfd_replay.proofs.Ordering.{mapped_here, ok_more}
use Rattle.bfd_replay.proofs.worker.finish.all_parts.Goals as goal

pub loop-reported-init : goal.loop-reported-init
loop-reported-init c = record {
  can = tt;
  ends = tt;
  all = c.into_iter-reported-iterator.ensures.into_iter_gives.0;
  so_far = cc;
}

pub parts_of-requires : goal.parts_of-requires
parts_of-requires c = c.requires (length c.loop-reported.yielded) (seen_as (λ parts. parts.items) c.in-Some.reported)
    (mapped_here (seen_as (λ parts. parts.items)) c.loop-reported.yielded c.next.new.self.rest.items c.args.worker_parts.items
    c.in-Some.reported
    (cc (c.in-Some.ensures.steps.0)))

pub loop-reported-preserved : goal.loop-reported-preserved
loop-reported-preserved c = record {
  can = tt;
  ends = tt;
  all = cc (append_assoc c.loop-reported.yielded (c.in-Some.reported ∷ []) c.next.new.self.rest.items, c.in-Some.ensures.steps.0);
  so_far = ok_more (seen_as (λ parts. parts.items)) (λ parts. parts.items) c.loop-reported.yielded c.loop-reported.all.items
      c.loop-reported.invariant.so_far
      c.in_ok-parts.ensures c.in_ok-push.ensures.items;
}

pub returns : goal.returns
returns c =
    let whole : c.loop-reported.yielded ≡ c.args.worker_parts.items =
    cc (append-nil c.loop-reported.yielded, nil_from_length c.loop-reported.reported-iterator.rest.items (cc (c.in-None.ensures.steps.0)))
    in
    cc
