-- What a session's machine shows.
use Rattle.std.specs.Prelude.{ℕ, Option, None}
use Rattle.bfd_session.specs.declared.event.SessionConfig.TheVariants.{PointToPoint, Initiator, Head, Tail}
use Rattle.bfd_session.specs.declared.session.Machine.{Machine}
use Rattle.bfd_session.specs.declared.session.Machine.TheVariants.{PointToPoint as PointOf, Initiator as InitiatorOf, Head as HeadOf}
use Rattle.bfd_session.specs.declared.session.Machine.TheVariants.{Tail as TailOf}
use Rattle.bfd_echo.specs.declared.echo.Echo.{Echo}
use Rattle.bfd_p2p.specs.Machine as point
use Rattle.bfd_sbfd.specs.Machine as initiator
use Rattle.bfd_mp.specs.Machine as tree
use Rattle.bfd_session.specs.Kinds.{Running}
use Rattle.bfd_session.specs.Step.{IsFit, IsSound}

-- a point-to-point machine with its Echo function as a session
abbrev pub point_of : point.Machine → Option Echo → ℕ → Running
point_of m echo echo_next = record { config = PointToPoint m.config; vars = m.vars; echo = echo; echo_next = echo_next }

-- an initiator's, a head's and a tail's
abbrev pub initiator_of : initiator.Machine → Running
initiator_of m = record { config = Initiator m.config; vars = m.vars; echo = None; echo_next = 0 }

abbrev pub head_of : tree.HeadMachine → Running
head_of m = record { config = Head m.config; vars = m.vars; echo = None; echo_next = 0 }

abbrev pub tail_of : tree.TailMachine → Running
tail_of m = record { config = Tail m.config; vars = m.vars; echo = None; echo_next = 0 }

-- a machine as a session
abbrev pub running_of : Machine → Running
running_of (PointOf m echo echo_next) = point_of m echo echo_next
running_of (InitiatorOf m) = initiator_of m
running_of (HeadOf m) = head_of m
running_of (TailOf m) = tail_of m

-- between events: the configuration is within its ranges, and the variables are sound
pub record IsRunning (m : Machine) : Type 0 where
  pub fit : IsFit (running_of m).config
  pub sound : IsSound (running_of m)
