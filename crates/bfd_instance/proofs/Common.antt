-- Names that proofs of this crate cite, passed on from one place. Declares nothing.
pub use Rattle.std.proofs.Common.{Err, List, None, Ok, Option, Result, Some, [], add-one, ap, append-nil, append_assoc, arith, drop, false}
pub use Rattle.std.proofs.Common.{map, max, refl, rules, set, suc, sym, take, zero, ℕ, ◌*◌, ◌++◌, ◌+◌, ◌<◌, ◌∙◌, ◌∷◌, ◌≡◌, ◌≤◌}
pub use Rattle.bfd_script.specs.declared.line.entries.Line.{Line}
pub use Rattle.bfd_instance.specs.World.{World, carried_out, happens, outcomes, own_of, reached, reflected, turn_giving, turned, world_of}
unfoldable pub use Rattle.bfd_instance.specs.World.{own, ticks}
pub use Rattle.bfd_rules.specs.declared.outputs.Out.{Out}
pub use Rattle.bfd_sbfd.specs.declared.reflecting.Reflector.{Reflector}
pub use Rattle.bfd_session.specs.Alone.{Outcome, step_outcome, stepped, tick_items, ticked}
pub use Rattle.bfd_session.specs.Kinds.{Running, configs_of, discr_of}
pub use Rattle.bfd_session.specs.Rows.{AreFit, table_of}
pub use Rattle.bfd_session.specs.Step.{CanTake, IsSound, started}
pub use Rattle.bfd_session.specs.declared.event.Answer.{Answer}
pub use Rattle.bfd_session.specs.declared.event.SessionConfig.{SessionConfig}
pub use Rattle.std.specs.List.{AllByRecursion, filter, flat_map, list_any}
pub use Rattle.std.proofs.Common.{Bool, get_or, length, subst, true, ◌||◌}
pub use Rattle.std.proofs.lemmas.Bool.Decides.{nat_tests}
pub use Rattle.std.proofs.lemmas.Bool.{eq-eqb}
pub use Rattle.std.specs.Prelude.{IfSome, is_some, nat_lt, not, ◌==◌}
pub use Rattle.std.specs.Prelude.{slice_get, slice_set}
pub use Rattle.bfd_script.specs.Doing.{Doing, Happens, Passes, Reflects, Rests, arriving, doing}
pub use Rattle.bfd_session.specs.declared.event.Event.{Event}
pub use Rattle.bfd_rules.specs.EventFrame.{Outputs}
