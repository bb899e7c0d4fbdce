-- What an event line resolves to by the configurations and the pool alone, whatever the variables of the sessions are.
use Rattle.std.specs.Prelude.{ℕ, Option, None, Some, List}
use Rattle.bfd_packet.specs.declared.arrival.Arrival.{Arrival}
use Rattle.bfd_rules.specs.declared.commands.Refusal.TheVariants.{UnknownSession}
use Rattle.bfd_sbfd.specs.declared.reflecting.Reflector.{Reflector}
use Rattle.bfd_session.specs.declared.event.SessionConfig.{SessionConfig}
use Rattle.bfd_session.specs.declared.event.Event.{Event}
use Rattle.bfd_session.specs.declared.event.Event.TheVariants.{Command, Show as Showing}
use Rattle.bfd_session.specs.declared.event.Answer.{Answer}
use Rattle.bfd_session.specs.declared.event.Answer.TheVariants.{Dropped, Refused}
use Rattle.bfd_session.specs.Arrivals.{Destination, Discarded, Reflected, Own, comes_to}
use Rattle.bfd_session.specs.Rows.{table_of, place_of}
use Rattle.bfd_script.specs.declared.line.entries.Line.{Line}
use Rattle.bfd_script.specs.declared.line.entries.Line.TheVariants.{Rx, Tick, Cmd, Show}

-- an event of no session, which has this answer; an arrival for the reflector at this place of the pool; an own event of the
-- session at this place, at this moment; or a tick of every session
pub data Doing : Type 0 where
  Rests : Answer → Doing
  Reflects : ℕ → Arrival → Doing
  Happens : ℕ → ℕ → Event → Doing
  Passes : ℕ → Doing

-- what an arrival at this moment does
abbrev pub arriving : ℕ → Arrival → Destination → Doing
arriving moment arrival (Discarded test) = Rests (Dropped test)
arriving moment arrival (Reflected place) = Reflects place arrival
arriving moment arrival (Own place event) = Happens place moment event

-- what a command or a question at this moment does: if it names no session, the answer says so
abbrev pub asking : ℕ → Event → Option ℕ → Doing
asking moment event None = Rests (Refused UnknownSession)
asking moment event (Some place) = Happens place moment event

-- what an event line resolves to
abbrev pub doing : List SessionConfig → List Reflector → Line → Doing
doing configs pool (Rx moment arrival) = arriving moment arrival (comes_to (table_of configs pool) arrival)
doing configs pool (Tick t) = Passes t
doing configs pool (Cmd moment discr cmd) = asking moment (Command cmd) (place_of discr configs)
doing configs pool (Show moment discr) = asking moment Showing (place_of discr configs)
