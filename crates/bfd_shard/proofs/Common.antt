-- Names that proofs of this crate cite, passed on from one place. Declares nothing.
pub use Rattle.std.proofs.Common.{Bool, IsSome, IsTrue, List, None, Option, Some, [], add-one, ap, append-nil, append_assoc, arith, drop}
pub use Rattle.std.proofs.Common.{drop-cons, ext_get_or, false, get_or, get_or-set_other, get_or-set_same, inl, inr, is_none, is_some}
pub use Rattle.std.proofs.Common.{length, length-append, length-set, map, max, refl, rules, set, subst, suc, sym, take, take_all, true}
pub use Rattle.std.proofs.Common.{zero, ℕ, ◌%◌, ◌&&◌, ◌*◌, ◌++◌, ◌+◌, ◌-◌, ◌/◌, ◌<◌, ◌||◌, ◌↔◌, ◌∙◌, ◌∷◌, ◌≡◌, ◌≢◌, ◌≤◌, ◌⊎◌}
pub use Rattle.std.proofs.lemmas.Bool.{cases_eq, eq-eqb, eqb-false, eqb-true, ne_eqb}
pub use Rattle.std.proofs.lemmas.List.{drop-drop, drop_all, drop_more, get_or-map, length-map, map-append, map-set}
pub use Rattle.std.specs.List.{All, AllByRecursion, cons_option, flat_map}
pub use Rattle.std.specs.Prelude.{if◌then◌else◌, nat_lt, option_map, slice_get, unwrap_or, vec_capacity, vec_len, zip, ◌==◌}
pub use Rattle.bfd_lanes.specs.Held.{HeldIds, room_of}
pub use Rattle.bfd_lanes.specs.Places.{come, places, without}
pub use Rattle.bfd_num.specs.Due.{has_come}
pub use Rattle.bfd_num.specs.Numbers.{greatest_tick, moment_bound}
pub use Rattle.bfd_session.specs.Alone.{stepped, tick_items, ticked}
pub use Rattle.bfd_session.specs.Due.{detects, due}
pub use Rattle.bfd_session.specs.Kinds.{Running, configs_of}
pub use Rattle.bfd_session.specs.Step.{CanTake, IsFit, IsSound, started, tick_emits, tick_next}
pub use Rattle.bfd_session.specs.declared.event.Event.{Event}
pub use Rattle.bfd_session.specs.declared.event.SessionConfig.{SessionConfig}
pub use Rattle.bfd_shard.specs.History.{after, events_of, last_tick, later, own_moved, run, runs}
unfoldable pub use Rattle.bfd_shard.specs.History.{last_from, moved, run_from, runs_from}
pub use Rattle.bfd_shard.specs.Shard.{CanHappen, IsExact, IsHistory, IsOnTime, IsOver, IsShard, NoneDue, Shard, shard_of}
pub use Rattle.bfd_session.specs.Reaching.{IsTaken}
pub use Rattle.bfd_shard.specs.declared.entry.Entry.{Entry}
pub use Rattle.bfd_shard.specs.declared.entry.ShardEvent.{ShardEvent}
pub use Rattle.bfd_shard.specs.declared.entry.ShardEvent.TheVariants.{Own, Tick}
pub use Rattle.std.proofs.lemmas.Nat.{div-add-mod'}
pub use Rattle.bfd_shard.specs.Expired.{expired, forgets, forgotten, has_expired}
pub use Rattle.std.proofs.Math.Seq.{get_or-append_seam, set-append_seam}
pub use Rattle.std.proofs.lemmas.Bool.Decides.{nat_tests}
pub use Rattle.std.proofs.lemmas.Option.{get_or_from_slice_get, slice_get-map, slice_get_past, slice_get_within}
pub use Rattle.bfd_session.specs.Rows.{AreFit}
