-- What has come due by an event of a tail is done first: detection. The limit is the moment by which something is due, in
-- microseconds.
use Rattle.std.specs.Prelude.{ℕ, if◌then◌else◌, None}
use Rattle.bfd_packet.specs.declared.control.State.TheVariants.{Down}
use Rattle.bfd_num.specs.Due.{has_come}
use Rattle.bfd_rules.specs.declared.variables.Vars.{Vars}
use Rattle.bfd_rules.specs.Quantities.{is_up}
use Rattle.bfd_rules.specs.EventFrame.{Course, changes, enters}
use Rattle.bfd_mp.specs.declared.config.TailConfig.{TailConfig}
use Rattle.bfd_mp.specs.Waiting.{deadline}

-- nothing was heard: a tail that is Up goes Down with diagnostic 1, Control Detection Time Expired; it still knows its head
abbrev pub silenced : Vars → Vars
silenced v = let w : Vars = record v { heard = None } in if is_up w.state then enters Down 1 w else w

-- the Detection Time has expired (RFC 8562 section 5.11, RFC 5880 section 6.8.4)
unfoldable pub settle : TailConfig → ℕ → Course → Course
settle c limit s = if has_come limit (deadline s.vars) then changes c.discr (silenced s.vars) s else s
