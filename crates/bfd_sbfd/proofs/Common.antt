-- Names that proofs of this crate cite, passed on from one place. Declares nothing.
pub use Rattle.std.proofs.Common.{Bool, Err, IfSome, IsSome, List, None, Ok, Option, Some, [], ap, arith, false, find, get_or}
pub use Rattle.std.proofs.Common.{if◌then◌else◌, inl, inr, is_some, length, refl, rules, suc, sym, true, zero, ℕ, ◌&&◌, ◌<◌, ◌==◌, ◌^◌, ◌↔◌}
pub use Rattle.std.proofs.Common.{◌∙◌, ◌∷◌, ◌≡◌, ◌≤◌}
pub use Rattle.bfd_num.specs.Due.{has_come}
pub use Rattle.bfd_num.specs.Numbers.{floor_tick, moment_bound, next_j}
pub use Rattle.bfd_packet.specs.Layout.{fields_of}
pub use Rattle.bfd_packet.specs.declared.control.Control.{Control}
pub use Rattle.bfd_rules.specs.EventFrame.{Course, based, begins, course, draws, is_unannounced, stamped}
unfoldable pub use Rattle.bfd_rules.specs.EventFrame.{changes, drawn, redrawn, sends}
pub use Rattle.bfd_rules.specs.Quantities.{is_admin_down, may_send, tx_interval}
pub use Rattle.bfd_rules.specs.declared.commands.Cmd.{Cmd}
pub use Rattle.bfd_rules.specs.declared.outputs.Out.{Out}
pub use Rattle.bfd_rules.specs.declared.variables.Vars.{Vars}
pub use Rattle.bfd_sbfd.specs.Command.{done, refusal}
unfoldable pub use Rattle.bfd_sbfd.specs.Command.{commanded}
pub use Rattle.bfd_sbfd.specs.Frame.{in_use}
unfoldable pub use Rattle.bfd_sbfd.specs.Frame.{moves}
pub use Rattle.bfd_sbfd.specs.Sound.{IsInitiatorPlain, IsInitiatorSound, IsInitiatorSteady}
unfoldable pub use Rattle.bfd_sbfd.specs.Transmit.{transmits}
pub use Rattle.bfd_sbfd.specs.Waiting.{deadline}
pub use Rattle.bfd_sbfd.specs.declared.config.InitiatorConfig.{InitiatorConfig}
pub use Rattle.std.proofs.lemmas.Grind.{common_steps}
pub use Rattle.bfd_rules.proofs.Courses.{OfOwn, after, changes-after, changes_names, chosen_names, either, own_name, sends-after}
pub use Rattle.bfd_rules.proofs.Courses.{sends_names}
pub use Rattle.std.specs.List.{AllByRecursion}
pub use Rattle.std.proofs.lemmas.Bool.Decides.{nat_tests}
pub use Rattle.bfd_sbfd.specs.declared.reflecting.Reflector.{Reflector}
