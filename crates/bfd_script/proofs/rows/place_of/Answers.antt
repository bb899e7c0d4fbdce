-- The search's clause, at the discriminators that the closure gives.
use Rattle.bfd_script.proofs.Common.{subst, sym, rules, map-id, discr_of, SessionConfig, Ascends}
use Rattle.std.proofs.lemmas.List.Sorted.{answers_always}
use Rattle.bfd_session.proofs.Searches.{searched}
use Rattle.bfd_script.proofs.Rising.{above_place}
use Rattle.bfd_script.proofs.rows.place_of.Goals as goal

-- one above all has no place
pub returns-then-are_below-clause-value : goal.returns-then-are_below-clause-value
returns-then-are_below-clause-value c = sym (above_place c.args.discr c.args.rows.now (c.are_below.ensures c.if-are_below.true))

pub returns-clause-value : goal.returns-clause-value
returns-clause-value c =
    let by_discr = c.binary_search_by_key.ensures.position (λ s. discr_of s) (answers_always _ _ _ (λ f a r g called. search rules)) in
    let same = map-id c.args.rows.now in
    cc (searched (λ (s : SessionConfig). s) c.args.rows.now c.args.discr c.binary_search_by_key.result
    (subst Ascends (sym same) c.requires.ascends)
    c.binary_search_by_key.ensures.bound by_discr)
