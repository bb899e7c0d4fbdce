-- One more pass is joined.
use Rattle.std.proofs.Common.{◌≢◌, ◌∷◌, [], refl, append_assoc, arith}
use Rattle.bfd_thread_tests.specs.Ready.{number_of}
use Rattle.bfd_thread_tests.proofs.Joins.{all_made_next, joined_more, map_more}
use Rattle.bfd_thread_tests.proofs.embedding.passes.join_all.Goals as goal

pub join-requires-clause-numbers : goal.join-requires-clause-numbers
join-requires-clause-numbers g c = (
  c.loop-job.invariant.joined.number,
  all_made_next (λ n. n ≢ 0) number_of c.loop-job.yielded c.next.new.self.rest.items c.in-Some.job (cc (c.in-Some.ensures.steps.0))
      c.requires.passes.others,
)

pub loop-job-preserved : goal.loop-job-preserved
loop-job-preserved g c = let i = c.loop-job.invariant in record {
  can = tt;
  ends = tt;
  all = cc (append_assoc c.loop-job.yielded (c.in-Some.job ∷ []) c.next.new.self.rest.items, c.in-Some.ensures.steps.0);
  joined = joined_more c.args.engine.now c.in-Some.job i.joined c.join.ensures.of c.join.ensures.there c.join.ensures.number
      c.join.ensures.joined;
  saw = map_more (λ s. s.items) (λ j. j.saw.items) c.loop-job.list.items c.loop-job.yielded c.in-Some.job i.saw refl
      c.push_reserved.ensures.items;
  room = omega (arith, i.room, c.push_reserved.ensures.capacity);
}
