-- The pass that was cut is put back in its place.
use Rattle.bfd_engine.proofs.Common.{get_or, ◌≡◌, ◌∙◌, sym, ap, subst, arith, get_or_from_slice_get, Knows, IsOf, AllThere}
use Rattle.bfd_engine.proofs.Places.{put_back, of_set, there_set}
use Rattle.bfd_engine.proofs.Cutting.{cut_here}
use Rattle.bfd_engine.proofs.engine.Engine.split_at.Goals as goal

pub lift-pass-requires : goal.lift-pass-requires
lift-pass-requires g c = c.requires.there.at c.args.at (omega (arith, c.requires.of.long, c.requires.at))

pub split-made-requires-clause-first : goal.split-made-requires-clause-first
split-made-requires-clause-first g c = (
  sym (get_or_from_slice_get c.args.self.now.locks c.args.at c.lift-pass.result.0 c.index.result.now
      (c.requires.of.lock c.args.at c.lift-pass.result c.lift-pass.ensures.pass))
      ∙ (ap (λ e. get_or e.locks c.args.at c.index.result.now) (sym c.self.view_is) ∙ sym c.index.ensures),
  cc,
)

pub split-made-requires-clause-number : goal.split-made-requires-clause-number
split-made-requires-clause-number g c = (c.requires.number.0, c.requires.new c.lift-pass.result c.lift-pass.ensures.pass)

pub returns-clause-of : goal.returns-clause-of
returns-clause-of g c =
    let lock : c.lift-pass.result.0 ≡ c.index.result.now =
    cc (get_or_from_slice_get c.args.self.now.locks c.args.at c.lift-pass.result.0 c.index.result.now
    (c.requires.of.lock c.args.at c.lift-pass.result c.lift-pass.ensures.pass)) in
    subst (IsOf c.args.self.now) (sym (ap (λ k. k.1) (put_back c.args.first.now c.lift-pass.new.self c.put.new.self c.args.at
    c.split-made.new.first c.lift-pass.ensures.rest c.put.ensures)))
    (of_set c.args.self.now c.args.first.now.1 c.args.at c.lift-pass.result c.split-made.new.first c.lift-pass.ensures.pass
    (cc) (ap (λ x. x.1.base) c.split-made.ensures.first) c.requires.of)

pub returns-clause-number : goal.returns-clause-number
returns-clause-number g c =
    cc (put_back c.args.first.now c.lift-pass.new.self c.put.new.self c.args.at c.split-made.new.first c.lift-pass.ensures.rest
    c.put.ensures)

pub returns-clause-used : goal.returns-clause-used
returns-clause-used g c =
    cc (put_back c.args.first.now c.lift-pass.new.self c.put.new.self c.args.at c.split-made.new.first c.lift-pass.ensures.rest
    c.put.ensures)

pub returns-clause-there : goal.returns-clause-there
returns-clause-there g c =
    subst AllThere (sym (ap (λ k. k.1) (put_back c.args.first.now c.lift-pass.new.self c.put.new.self c.args.at c.split-made.new.first
    c.lift-pass.ensures.rest c.put.ensures))) (there_set c.args.first.now.1 c.args.at c.split-made.new.first c.requires.there)

pub returns-clause-cut : goal.returns-clause-cut
returns-clause-cut g c =
    rw (ap (λ (k : Knows). k.1) (put_back c.args.first.now c.lift-pass.new.self c.put.new.self c.args.at c.split-made.new.first
    c.lift-pass.ensures.rest c.put.ensures)) (cut_here c.args.number c.args.at c.args.first.now.1 c.index.result.now c.lift-pass.result
    c.split-made.new.first c.split-made.result c.lift-pass.ensures.pass (cc (get_or_from_slice_get c.args.self.now.locks c.args.at
    c.lift-pass.result.0 c.index.result.now (c.requires.of.lock c.args.at c.lift-pass.result c.lift-pass.ensures.pass)))
    c.split-made.ensures.first c.split-made.ensures.other c.split-made.ensures.fresh)
