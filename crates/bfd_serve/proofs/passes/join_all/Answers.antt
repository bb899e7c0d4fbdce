-- One more pass is joined.
use Rattle.bfd_serve.proofs.Common.{◌≡◌, append_assoc, append-nil, nil_from_length, IsOther, ◌∷◌, [], all_next}
use Rattle.bfd_serve.proofs.Joins.{taken_in_none, taken_in_more}
use Rattle.bfd_serve.proofs.passes.join_all.Goals as goal

pub loop-pass-init : goal.loop-pass-init
loop-pass-init g c = record {
  can = tt;
  ends = tt;
  all = c.into_iter-pass-iterator.ensures.into_iter_gives.0;
  taken = taken_in_none c.args.first.now c.requires.of c.requires.there c.requires.number;
}

pub join-requires-clause-of : goal.join-requires-clause-of
join-requires-clause-of g c = (
  c.loop-pass.invariant.taken.of,
  (all_next (IsOther c.args.engine.now) _ c.loop-pass.yielded c.next.new.self.rest.items c.in-Some.pass (cc (c.in-Some.ensures.steps.0))
      c.requires.others).of,
)

pub join-requires-clause-there : goal.join-requires-clause-there
join-requires-clause-there g c = (
  c.loop-pass.invariant.taken.there,
  (all_next (IsOther c.args.engine.now) _ c.loop-pass.yielded c.next.new.self.rest.items c.in-Some.pass (cc (c.in-Some.ensures.steps.0))
      c.requires.others).there,
)

pub join-requires-clause-numbers : goal.join-requires-clause-numbers
join-requires-clause-numbers g c = (
  c.loop-pass.invariant.taken.number,
  (all_next (IsOther c.args.engine.now) _ c.loop-pass.yielded c.next.new.self.rest.items c.in-Some.pass (cc (c.in-Some.ensures.steps.0))
      c.requires.others).number,
)

pub loop-pass-preserved : goal.loop-pass-preserved
loop-pass-preserved g c = record {
  can = tt;
  ends = tt;
  all = cc (append_assoc c.loop-pass.yielded (c.in-Some.pass ∷ []) c.next.new.self.rest.items, c.in-Some.ensures.steps.0);
  taken = taken_in_more c.loop-pass.invariant.taken c.join.ensures.of c.join.ensures.there c.join.ensures.number c.join.ensures.joined;
}

pub returns-clause-joined : goal.returns-clause-joined
returns-clause-joined g c =
    let whole : c.loop-pass.yielded ≡ c.args.passes.items =
    cc (append-nil c.loop-pass.yielded, (nil_from_length c.loop-pass.pass-iterator.rest.items (cc (c.in-None.ensures.steps.0)))) in
    λ s h. rw (← whole) (c.loop-pass.invariant.taken.joined s h)
