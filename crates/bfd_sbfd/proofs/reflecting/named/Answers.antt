-- The search's clause, at the discriminators that the closure gives.
use Rattle.bfd_sbfd.proofs.Common.{rules}
use Rattle.std.proofs.lemmas.List.Sorted.{answers_always}
use Rattle.bfd_sbfd.proofs.Searching.{named_found, named_missing}
use Rattle.bfd_sbfd.proofs.reflecting.named.Goals as goal

pub returns-in-Ok : goal.returns-in-Ok
returns-in-Ok c =
    let by_discr = c.in-Ok.ensures.position (λ r. r.discr) (answers_always _ _ _ (λ f a r g called. search rules)) in
    record {
      value = named_found c.args.pool.now c.args.discr c.in-Ok.place _ c.if-discr-eq0.false c.requires.ascends c.in-Ok.ensures.bound
          by_discr;
    }

pub returns-in-Err : goal.returns-in-Err
returns-in-Err c =
    let by_discr = c.in-Err.ensures.position (λ r. r.discr) (answers_always _ _ _ (λ f a r g called. search rules)) in
    record {
      value = named_missing c.args.pool.now c.args.discr c.in-Err.field-0 c.if-discr-eq0.false c.requires.ascends
          c.in-Err.ensures.bound by_discr;
    }
