-- One more job.
use Rattle.bfd_serve.proofs.Common.{◌<◌, ◌++◌, length, map, ap, sym, ◌∙◌, append_assoc, length-append, arith, map-append, length-map}
use Rattle.bfd_serve.proofs.Common.{Memory, pass_of, link_of, ◌∷◌, [], Job}
use Rattle.bfd_serve.proofs.Moves.{first_over}
use Rattle.bfd_serve.proofs.serving.pair_up.Goals as goal

pub loop-link-init : goal.loop-link-init
loop-link-init g c = record {
  can = tt;
  ends = tt;
  all = c.into_iter-link-iterator.ensures.into_iter_gives.0;
  links = cc;
  passes = cc;
  long = c.requires.long;
  room = c.requires.room;
}

pub loop-link-preserved : goal.loop-link-preserved
loop-link-preserved g c = let i = c.loop-link.invariant in
    let job : Job g.row.L.Denot = record { pass = c.remove-pass.result; link = c.in-Some.link; end = Memory; lost = 0 } in
    let jobs = c.loop-link.jobs.items in
    let all = append_assoc c.loop-link.yielded (c.in-Some.link ∷ []) c.next.new.self.rest.items
    ∙ (ap (λ l. c.loop-link.yielded ++ l) (sym c.in-Some.ensures.steps.0) ∙ i.all) in
    let some : 0 < length c.loop-link.passes.items =
    omega (
      arith,
      length-append (map pass_of jobs) c.loop-link.passes.items,
      length-append c.loop-link.yielded c.loop-link.link-iterator.rest.items,
      length-map jobs pass_of,
      length-map jobs link_of,
    ) in record {
      can = tt;
      ends = tt;
      all = all;
      links = cc (map-append link_of jobs (job ∷ []));
      passes = cc (
        map-append pass_of jobs (job ∷ []),
        first_over (map pass_of jobs) c.loop-link.passes.items c.remove-pass.result some (sym c.remove-pass.ensures.value) i.passes,
      );
      long = i.long;
      room = omega arith;
    }
