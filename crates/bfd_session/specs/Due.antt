-- When a session needs its next tick.
use Rattle.std.specs.Prelude.{ℕ, Option, None, option_map}
use Rattle.bfd_num.specs.Numbers.{ceil_tick}
use Rattle.bfd_num.specs.Due.{sooner}
use Rattle.bfd_rules.specs.declared.variables.Vars.{Vars}
use Rattle.bfd_rules.specs.Quantities.{deadline, seq_deadline}
use Rattle.bfd_sbfd.specs.Waiting as initiator
use Rattle.bfd_mp.specs.Waiting as tail
use Rattle.bfd_session.specs.declared.event.SessionConfig.{SessionConfig}
use Rattle.bfd_session.specs.declared.event.SessionConfig.TheVariants.{PointToPoint, Initiator, Head, Tail}
use Rattle.bfd_session.specs.Kinds.{Running}
use Rattle.bfd_session.specs.Echoing.{echo_due}

-- when the Detection Time of a session of this kind expires, if it runs (RFC 5880 section 6.8.4, RFC 7880 section 7.3.3, RFC
-- 8562 section 5.11); a head hears nothing
abbrev pub detects_by : SessionConfig → Vars → Option ℕ
detects_by (PointToPoint c) v = deadline v
detects_by (Initiator c) v = initiator.deadline v
detects_by (Head c) v = None
detects_by (Tail c) v = tail.deadline v

abbrev pub detects : Running → Option ℕ
detects s = detects_by s.config s.vars

-- the tick at which a moment has come
abbrev pub tick_of : Option ℕ → Option ℕ
tick_of moment = option_map ceil_tick moment

-- the least due tick: of the Detection Time, of the received sequence number, of the periodic packet, and of the Echo function
abbrev pub due_by : SessionConfig → Running → Option ℕ
due_by (PointToPoint c) s =
    sooner (tick_of (deadline s.vars)) (sooner (tick_of (seq_deadline s.vars)) (sooner s.vars.tx_due (echo_due c s.vars s.echo)))
due_by (Initiator c) s = sooner (tick_of (initiator.deadline s.vars)) s.vars.tx_due
due_by (Head c) s = s.vars.tx_due
due_by (Tail c) s = tick_of (tail.deadline s.vars)

abbrev pub due : Running → Option ℕ
due s = due_by s.config s
