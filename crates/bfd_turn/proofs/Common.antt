-- Names that proofs of this crate cite, passed on from one place. Declares nothing.
pub use Rattle.std.proofs.Common.{Bool, List, [], ap, append_assoc, arith, cond, eq-eqb, eqb, eqb-true, false, get_or, inl, inr, length}
pub use Rattle.std.proofs.Common.{length-append, ne_eqb, refl, rules, set, subst, suc, sym, true, zero, ℕ, ⊎_elim, ◌%◌, ◌*◌, ◌++◌, ◌+◌, ◌<◌}
pub use Rattle.std.proofs.Common.{◌^◌, ◌∙◌, ◌∷◌, ◌≡◌, ◌≢◌, ◌≤◌, ◌⊎◌}
pub use Rattle.std.proofs.lemmas.List.{append-nil, map-append}
pub use Rattle.std.proofs.lemmas.List.Elements.{All-append, All-tail, filter-append}
pub use Rattle.std.specs.Prelude.{All, None, Option, Some, nat_le, ◌||◌}
pub use Rattle.atomic_table.proofs.Lists.{at_longer, at_set, exchanged, set_else, set_here}
pub use Rattle.atomic_table.specs.Table.{Act, Allows, Final, Joins, Me, Seen, Splits, State, Valid, carried_after, gives, keeps, opening}
pub use Rattle.atomic_table.specs.Table.{rest, step, stepped, takes}
pub use Rattle.bfd_turn.specs.Lists.{Begins, calls, has, longer, numbers_of, shorter}
pub use Rattle.bfd_turn.specs.Passes.{AllJoined, Grows, IsNew, having_met}
pub use Rattle.bfd_turn.specs.Plays.{AllKept, Lent, Shows, checked, looked, released, took}
pub use Rattle.bfd_turn.specs.Rule.{AtHome, Fits, Keeps, Out, total_taken}
pub use Rattle.bfd_turn.specs.Views.{glued, holding, idle_after, at_word, having_looked, joined_view, known, known_of, met, newcomer}
pub use Rattle.bfd_turn.specs.Views.{offspring, parent}
pub use Rattle.bfd_turn.specs.declared.view.Known.{Known}
pub use Rattle.bfd_turn.specs.declared.view.Role.TheVariants.{Holding, Idle, Joined}
pub use Rattle.bfd_turn.specs.declared.view.View.{View}
pub use lib.ListN.{get_elem?}
pub use mathlib.Core.Logic.{dite}
pub use mathlib.Core.Option.{none, some, some-injective, some-ne-none}
pub use native.Mathlib.Decide.{ℕ_discrete}
pub use Rattle.bfd_turn.specs.declared.view.Role.{Role}
pub use Rattle.std.proofs.lemmas.Bool.{false≢true, true_from_ne_false}
