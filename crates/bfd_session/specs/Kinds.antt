-- The kinds of sessions, a session as one record, and an event of it on its way.
use Rattle.std.specs.Prelude.{ℕ, Option, None, List, map}
use Rattle.bfd_rules.specs.declared.variables.Vars.{Vars}
use Rattle.bfd_rules.specs.EventFrame.{Course}
use Rattle.bfd_echo.specs.declared.echo.Echo.{Echo}
use Rattle.bfd_session.specs.declared.event.SessionConfig.{SessionConfig}
use Rattle.bfd_session.specs.declared.event.SessionConfig.TheVariants.{PointToPoint, Initiator, Head, Tail}

-- the local discriminator of a session
abbrev pub discr_of : SessionConfig → ℕ
discr_of (PointToPoint c) = c.discr
discr_of (Initiator c) = c.discr
discr_of (Head c) = c.discr
discr_of (Tail c) = c.discr

-- a session: its configuration, its variables, its Echo function if it runs, and the sequence number that the next one
-- begins with; only a point-to-point session has an Echo function
pub record Running : Type 0 where
  pub config : SessionConfig
  pub vars : Vars
  pub echo : Option Echo
  pub echo_next : ℕ

-- the configurations of sessions
abbrev pub configs_of : List Running → List SessionConfig
configs_of sessions = map (λ s. s.config) sessions

-- an event on its way: the course of the session's machine, and the Echo function
pub record Flow : Type 0 where
  pub course : Course
  pub echo : Option Echo
  pub echo_next : ℕ

abbrev pub flow : Course → Option Echo → ℕ → Flow
flow s echo echo_next = record { course = s; echo = echo; echo_next = echo_next }

-- an event of a session without an Echo function
abbrev pub plain : Course → Flow
plain s = flow s None 0

-- a rule of the machine doesn't change the Echo function
abbrev pub along : Flow → Course → Flow
along f s = record f { course = s }

-- the session at the end of an event
abbrev pub left_by : Flow → Running → Running
left_by f s = record s { vars = f.course.vars; echo = f.echo; echo_next = f.echo_next }
