-- Names that proofs of this crate cite, passed on from one place. Declares nothing.
pub use Rattle.std.proofs.Common.{Bool, IfSome, IsSome, List, None, Option, Some, ap, arith, false, if◌then◌else◌, is_some, min, not, refl}
pub use Rattle.std.proofs.Common.{sym, true, ℕ, ◌&&◌, ◌-◌, ◌<◌, ◌==◌, ◌^◌, ◌↔◌, ◌≡◌, ◌≤◌}
pub use Rattle.bfd_mp.specs.Command.{head_done, head_refusal, tail_done, tail_refusal}
unfoldable pub use Rattle.bfd_mp.specs.Command.{head_commanded, tail_commanded}
pub use Rattle.bfd_mp.specs.Sound.{IsHeadSound, IsHeadSteady, IsTailSound}
unfoldable pub use Rattle.bfd_mp.specs.Transmit.{transmits}
pub use Rattle.bfd_mp.specs.Waiting.{deadline}
pub use Rattle.bfd_mp.specs.declared.config.HeadConfig.{HeadConfig}
pub use Rattle.bfd_mp.specs.declared.config.TailConfig.{TailConfig}
pub use Rattle.bfd_num.specs.Due.{has_come}
pub use Rattle.bfd_num.specs.Numbers.{floor_tick, moment_bound, next_j}
pub use Rattle.bfd_packet.specs.Layout.{fields_of}
pub use Rattle.bfd_packet.specs.declared.control.Control.{Control}
pub use Rattle.bfd_rules.proofs.Courses.{OfOwn, after, changes-after, changes_names, chosen_names, either, own_name, sends-after}
pub use Rattle.bfd_rules.proofs.Courses.{sends_names}
pub use Rattle.bfd_rules.specs.EventFrame.{Course, based, begins, course, draws, enters, is_news, is_unannounced, stamped}
unfoldable pub use Rattle.bfd_rules.specs.EventFrame.{changes, drawn, redrawn, sends}
pub use Rattle.bfd_rules.specs.Quantities.{is_admin_down, is_up, may_send, tx_interval}
pub use Rattle.bfd_rules.specs.declared.commands.Cmd.{Cmd}
pub use Rattle.bfd_rules.specs.declared.outputs.Out.{Out}
pub use Rattle.bfd_rules.specs.declared.variables.Vars.{Vars}
pub use Rattle.std.proofs.lemmas.Grind.{common_steps}
pub use Rattle.bfd_rules.specs.declared.variables.Mark.{Mark}
pub use Rattle.bfd_packet.specs.declared.control.State.TheVariants.{AdminDown, Down, Init, Up}
