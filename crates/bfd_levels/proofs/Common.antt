-- Names that proofs of this crate cite, passed on from one place. Declares nothing.
pub use Rattle.std.proofs.Common.{Bool, List, [], add-one, ap, arith, cond, drop, false, get_or, if◌then◌else◌, inl, inr, length, map, max}
pub use Rattle.std.proofs.Common.{nat_eq, nat_le, nat_lt, refl, replicate, slice_index, slice_set, subst, suc, sym, true, zero, ℕ, ◌%◌, ◌*◌}
pub use Rattle.std.proofs.Common.{◌+◌, ◌-◌, ◌/◌, ◌<◌, ◌^◌, ◌∙◌, ◌∷◌, ◌≡◌, ◌≢◌, ◌≤◌, ◌⊎◌}
pub use Rattle.std.proofs.lemmas.Bool.{cases_eq, cases_lt, eqb-false, eqb-true, le-ltb, leb-true, lt-ltb}
pub use Rattle.std.proofs.lemmas.Bool.Decides.{nat_tests}
pub use Rattle.std.proofs.lemmas.List.{get_or-set_other, get_or-set_same, length-map, length-set, set-set}
pub use Rattle.std.specs.Prelude.{None, Option, Some}
pub use Rattle.bfd_lanes.specs.Held.{room_of}
pub use Rattle.bfd_lanes.specs.Places.{come, due_of, never, without}
pub use Rattle.bfd_levels.specs.Height.{Clocked, height, potential, potential_of, weight}
pub use Rattle.bfd_levels.specs.Lists.{IsLevels, at_jump, at_midway, at_tick, loads, reach}
unfoldable pub use Rattle.bfd_levels.specs.Lists.{level_of, load, midway, place, slot, total}
pub use Rattle.bfd_levels.specs.Moves.{CanMove, Relinks, Visit, moves, stays, takes}
unfoldable pub use Rattle.bfd_levels.specs.Moves.{GoesDown}
pub use Rattle.bfd_levels.specs.Rings.{IsPlaced}
unfoldable pub use Rattle.bfd_levels.specs.Rings.{head_for}
pub use Rattle.bfd_wheel.proofs.Order.{appended_from, ordered, times_come}
pub use Rattle.bfd_wheel.proofs.TakenIds.{above_all, bit_other, bit_same, ids_first, ids_rest, left_is, none_waits, same_or_gone_on}
pub use Rattle.bfd_wheel.proofs.TakenIds.{took_id, took_none, took_then, waiting-le, waiting-set, waiting_one}
pub use Rattle.bfd_wheel.proofs.Views.{back, due_of_below, none_yet, set_view}
pub use Rattle.bfd_wheel.specs.Rings.{IsOn, IsRing, Links, Unlinks}
pub use Rattle.bfd_wheel.specs.Taken.{Took, bit, counts_due, times, waiting}
pub use Rattle.bfd_wheel.specs.Wheel.{IsLinked, due_in, prev_in}
unfoldable pub use Rattle.bfd_wheel.specs.Wheel.{next_in}
pub use Rattle.bfd_wheel.specs.declared.links.Node.{Node}
pub use Rattle.bfd_wheel.proofs.Rings.{PutsIn, TakesOut, ring_moved, ring_with, ring_without}
pub use Rattle.bfd_wheel.proofs.Wheels.{head_on, id_on, ranked, ranked_below, ranked_own, ranked_same, ring_linked, start_ranked}
