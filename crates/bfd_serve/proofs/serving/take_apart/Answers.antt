-- One more job is taken apart.
use Rattle.bfd_serve.proofs.Common.{map, ap, sym, ◌∙◌, append_assoc, append-nil, arith, sum, map-append, sum_by_push, pass_of, link_of}
use Rattle.bfd_serve.proofs.Common.{end_of_job, lost_of, ◌∷◌, []}
use Rattle.bfd_serve.proofs.serving.take_apart.Goals as goal

pub loop-job-init : goal.loop-job-init
loop-job-init g c = record {
  can = tt;
  finite = tt;
  all = c.into_iter-job-iterator.ensures.into_iter_gives.0;
  passes = c.requires.none.0;
  links = c.requires.none.1;
  ends = sym (append-nil c.args.ends.items);
  lost = omega arith;
  room_passes = c.requires.passes;
  room_links = c.requires.links;
  room_ends = c.requires.ends;
}

pub loop-job-preserved : goal.loop-job-preserved
loop-job-preserved g c = let i = c.loop-job.invariant in let ys = c.loop-job.yielded in let job = c.in-Some.job in record {
  can = tt;
  finite = tt;
  all = cc (append_assoc ys (job ∷ []) c.next.new.self.rest.items, c.in-Some.ensures.steps.0);
  passes = cc (map-append pass_of ys (job ∷ []));
  links = cc (map-append link_of ys (job ∷ []));
  ends = cc (append_assoc c.args.ends.items (map end_of_job ys) (job.end ∷ []), map-append end_of_job ys (job ∷ []));
  lost = (let e = ap sum (map-append lost_of ys (job ∷ [])) ∙ sum_by_push (λ x. x) (map lost_of ys) job.lost in
      omega (arith, c.ranges.lost.fits, c.saturating_add-lost.ensures, i.lost));
  room_passes = omega (arith, i.room_passes, c.push_reserved.ensures.capacity);
  room_links = omega (arith, i.room_links, c.push_reserved-in-loop-job.ensures.capacity);
  room_ends = omega (arith, i.room_ends, c.push_reserved-in-loop-job-2.ensures.capacity);
}
