-- What an arrival resolves to by the table alone, whatever the variables of the sessions are.
use Rattle.std.specs.Prelude.{ℕ, Option, None, Some, List}
use Rattle.bfd_packet.specs.declared.arrival.Arrival.{Arrival}
use Rattle.bfd_packet.specs.declared.discard.Test.{Test}
use Rattle.bfd_packet.specs.declared.discard.Test.TheVariants.{NoSession}
use Rattle.bfd_demux.specs.declared.row.Row.{Row}
use Rattle.bfd_demux.specs.declared.target.Target.{Target}
use Rattle.bfd_demux.specs.declared.target.Target.TheVariants.{Session, Reflector, Echo}
use Rattle.bfd_demux.specs.Selection.{first_table_failing, target_of}
use Rattle.bfd_session.specs.declared.event.Event.{Event}
use Rattle.bfd_session.specs.declared.event.Event.TheVariants.{Packet, Returned}

-- an arrival is discarded by a test, and then is no event of any session; or it goes to the reflector at this place of the
-- pool; or it is an own event of the session at this place (RFC 5880 section 6.8.6)
pub data Destination : Type 0 where
  Discarded : Test → Destination
  Reflected : ℕ → Destination
  Own : ℕ → Event → Destination

-- what an arrival for this target resolves to
abbrev pub coming_to : Option Target → Arrival → Destination
coming_to None arrival = Discarded NoSession
coming_to (Some (Session place)) arrival = Own place (Packet arrival)
coming_to (Some (Reflector place)) arrival = Reflected place
coming_to (Some (Echo place sequence)) arrival = Own place (Returned sequence)

-- it is discarded by the first failing test up to selection, if there is one
abbrev pub coming_by : Option Test → Option Target → Arrival → Destination
coming_by (Some test) target arrival = Discarded test
coming_by None target arrival = coming_to target arrival

-- what an arrival resolves to in this table
abbrev pub comes_to : List Row → Arrival → Destination
comes_to rows arrival = coming_by (first_table_failing rows arrival) (target_of rows arrival) arrival
