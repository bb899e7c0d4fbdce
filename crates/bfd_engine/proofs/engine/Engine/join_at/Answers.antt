-- The pass that the other joined is put back in its place.
use Rattle.bfd_engine.proofs.Common.{get_or, ◌≡◌, ◌∙◌, sym, ap, subst, arith, get_or_from_slice_get, Knows, IsOf, AllThere, GluesAt}
use Rattle.bfd_engine.proofs.Places.{put_back, of_set, none_set, there_set}
use Rattle.bfd_engine.proofs.Lending.{still}
use Rattle.bfd_engine.proofs.Gluing.{glue_here}
use Rattle.bfd_engine.proofs.engine.Engine.join_at.Goals as goal

pub lift-pass-requires : goal.lift-pass-requires
lift-pass-requires g c = c.requires.there.at c.args.at (omega (arith, c.requires.of.0.long, c.requires.at))

pub lift-theirs-requires : goal.lift-theirs-requires
lift-theirs-requires g c = c.requires.here

pub join-requires-clause-first : goal.join-requires-clause-first
join-requires-clause-first g c = (
  sym (get_or_from_slice_get c.args.self.now.locks c.args.at c.lift-pass.result.0 c.index.result.now
      (c.requires.of.0.lock c.args.at c.lift-pass.result c.lift-pass.ensures.pass))
      ∙ (ap (λ e. get_or e.locks c.args.at c.index.result.now) (sym c.self.view_is) ∙ sym c.index.ensures),
  cc,
)

pub join-requires-clause-other : goal.join-requires-clause-other
join-requires-clause-other g c = (
  sym (get_or_from_slice_get c.args.self.now.locks c.args.at c.lift-theirs.result.0 c.index.result.now
      (c.requires.of.1.lock c.args.at c.lift-theirs.result c.lift-theirs.ensures.pass))
      ∙ (ap (λ e. get_or e.locks c.args.at c.index.result.now) (sym c.self.view_is) ∙ sym c.index.ensures),
  λ e. c.requires.numbers.1 (cc),
)

pub put-requires-clause-callers : goal.put-requires-clause-callers
put-requires-clause-callers g c = rw c.lift-pass.ensures.rest (still c.join.new.first.1
    (ap (λ x. x.1.number) c.join.ensures.first) (ap (λ x. x.1.made) c.join.ensures.first) c.lift-pass.ensures.callers)

pub returns-clause-numbers : goal.returns-clause-numbers
returns-clause-numbers g c = (
  cc (put_back c.args.first.now c.lift-pass.new.self c.put.new.self c.args.at c.join.new.first c.lift-pass.ensures.rest c.put.ensures),
  cc,
)

pub returns-clause-used : goal.returns-clause-used
returns-clause-used g c = cc (put_back c.args.first.now c.lift-pass.new.self c.put.new.self c.args.at c.join.new.first
    c.lift-pass.ensures.rest c.put.ensures)

pub returns-clause-glued : goal.returns-clause-glued
returns-clause-glued g c =
    subst (λ (k : Knows × Knows). GluesAt c.args.other.now.0 c.args.at c.args.first.now.1 c.args.other.now.1 k.0.1 k.1.1)
    (λ i. (
      sym (put_back c.args.first.now c.lift-pass.new.self c.put.new.self c.args.at c.join.new.first c.lift-pass.ensures.rest
          c.put.ensures) i,
      sym c.lift-theirs.ensures.rest i,
    ))
    (glue_here c.args.other.now.0 c.args.at c.args.first.now.1 c.args.other.now.1 c.index.result.now c.lift-pass.result c.lift-theirs.result
    c.join.new.first
    c.lift-pass.ensures.pass c.lift-theirs.ensures.pass c.lift-theirs.ensures.callers.number_is (record {
      first_lock = cc (get_or_from_slice_get c.args.self.now.locks c.args.at c.lift-pass.result.0 c.index.result.now
          (c.requires.of.0.lock c.args.at c.lift-pass.result c.lift-pass.ensures.pass));
      result_is = c.join.ensures.first;
      later = c.join.ensures.word.0;
      later_theirs = c.join.ensures.word.1;
      begins = c.join.ensures.prefix.0;
      begins_theirs = c.join.ensures.prefix.1;
      own = c.join.ensures.mine;
    }))

pub returns-clause-there : goal.returns-clause-there
returns-clause-there g c =
    subst AllThere (sym (ap (λ k. k.1) (put_back c.args.first.now c.lift-pass.new.self c.put.new.self c.args.at c.join.new.first
    c.lift-pass.ensures.rest c.put.ensures))) (there_set c.args.first.now.1 c.args.at c.join.new.first c.requires.there)

pub returns-clause-of : goal.returns-clause-of
returns-clause-of g c =
    let lock : c.lift-pass.result.0 ≡ c.index.result.now =
    cc (get_or_from_slice_get c.args.self.now.locks c.args.at c.lift-pass.result.0 c.index.result.now
    (c.requires.of.0.lock c.args.at c.lift-pass.result c.lift-pass.ensures.pass)) in (
      subst (IsOf c.args.self.now) (sym (ap (λ k. k.1) (put_back c.args.first.now c.lift-pass.new.self c.put.new.self c.args.at
          c.join.new.first c.lift-pass.ensures.rest c.put.ensures)))
          (of_set c.args.self.now c.args.first.now.1 c.args.at c.lift-pass.result c.join.new.first c.lift-pass.ensures.pass
          (cc) (ap (λ x. x.1.base) c.join.ensures.first) c.requires.of.0),
      subst (IsOf c.args.self.now) (sym (ap (λ k. k.1) c.lift-theirs.ensures.rest))
          (none_set c.args.self.now c.args.other.now.1 c.args.at c.lift-theirs.result c.lift-theirs.ensures.pass c.requires.of.1),
    )
