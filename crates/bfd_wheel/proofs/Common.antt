-- Names that proofs of this crate cite, passed on from one place. Declares nothing.
pub use Rattle.std.proofs.Common.{Bool, IsPermutation, List, None, Option, Some, [], add-one, ap, append_assoc, arith, cond, drop}
pub use Rattle.std.proofs.Common.{drop-cons, false, get_or, inl, inr, length, length-append, map, max, nat_eq, nat_le, nat_lt, refl}
pub use Rattle.std.proofs.Common.{replicate, set, slice_index, slice_set, subst, suc, sym, take, true, zero, ℕ, ◌%◌, ◌++◌, ◌+◌, ◌-◌, ◌<◌}
pub use Rattle.std.proofs.Common.{◌^◌, ◌∙◌, ◌∷◌, ◌≡◌, ◌≢◌, ◌≤◌, ◌⊎◌}
pub use Rattle.std.proofs.lemmas.Bool.{cases_eq, cases_lt, le-leb, le-ltb, lt-leb, lt-ltb}
pub use Rattle.std.proofs.lemmas.Bool.Decides.{nat_tests}
pub use Rattle.std.proofs.lemmas.List.{append-nil, get_or-map, get_or-set_other, get_or-set_same, get_or_default, get_or_past, length-drop}
pub use Rattle.std.proofs.lemmas.List.{length-map, length-set, map-set, same_lists, set-set, take-append-drop, take_all}
pub use Rattle.bfd_lanes.specs.Places.{come, due_of, never, places, without}
pub use Rattle.bfd_wheel.specs.Rings.{IsOn, IsRanked, IsRing, Links, Unlinks}
pub use Rattle.bfd_wheel.specs.Taken.{Took, bit, counts_due, times, waiting}
pub use Rattle.bfd_wheel.specs.Wheel.{IsLinked, IsWheel, due_in, place, prev_in}
unfoldable pub use Rattle.bfd_wheel.specs.Wheel.{home, next_in}
pub use Rattle.bfd_wheel.specs.declared.links.Node.{Node}
pub use Rattle.bfd_lanes.proofs.Scanned.{come_of}
pub use Rattle.bfd_lanes.specs.Held.{room_of}
