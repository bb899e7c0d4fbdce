-- How a packet that came in is answered.
use Rattle.std.specs.Prelude.{ℕ, Option, None, Some, List, [], slice_get}
use Rattle.std.specs.Result.{result_err}
use Rattle.bfd_packet.specs.declared.arrival.Arrival.{Arrival}
use Rattle.bfd_demux.specs.declared.row.Row.{Row}
use Rattle.bfd_sbfd.specs.Reflect.{reflect}
use Rattle.bfd_session.specs.declared.event.Answer.{Answer}
use Rattle.bfd_session.specs.declared.event.Answer.TheVariants.{Handled, Dropped}
use Rattle.bfd_session.specs.declared.event.Event.{Event}
use Rattle.bfd_session.specs.declared.event.Event.TheVariants.{Packet, Returned}
use Rattle.bfd_session.specs.Alone.{effective}
use Rattle.bfd_session.specs.Arrivals.{Destination, Discarded, Reflected, Own, comes_to}
use Rattle.bfd_session.specs.Discards.{answer_by, first_discarding, judging}
use Rattle.bfd_session.specs.Kinds.{Running, configs_of}
use Rattle.bfd_session.specs.Rows.{table_of}
use Rattle.bfd_session.specs.Step.{answer_to_return, awaits, begun, settled}
use Rattle.bfd_instance.specs.World.{World}

-- a session's answer at an effective moment: a packet is discarded by the first of all tests that it fails, over the session's variables
-- after settling, and handled where it fails none (RFC 5880 section 6.8.6); an echo packet that came back is handled where its number was
-- awaited (section 6.8.8). No other event arrives
abbrev pub session_answer : List Row → ℕ → Event → Running → Answer
session_answer rows eff (Packet arrival) s = answer_by (first_discarding rows s.config (judging eff s) arrival)
session_answer rows eff (Returned sequence) s =
    answer_to_return (awaits s.config sequence (settled s.config eff eff (begun (Some eff) s [])))
session_answer rows eff event s = Handled

-- that of the session at a place
abbrev pub answer_there : List Row → ℕ → ℕ → Event → Option Running → Answer
answer_there rows moment last event None = Handled
answer_there rows moment last event (Some s) = session_answer rows (effective moment last s) event s

-- the answer to an arrival that comes to this: one that fails a test up to selection is discarded by the first of them, and a
-- reflector's packet by the first of the reflectors' tests that it fails (RFC 7880 section 7.2)
abbrev pub judged_as : ℕ → Arrival → Destination → World → Answer
judged_as moment arrival (Discarded test) w = Dropped test
judged_as moment arrival (Reflected place) w = answer_by (result_err (reflect w.pool arrival))
judged_as moment arrival (Own place event) w =
    answer_there (table_of (configs_of w.sessions) w.pool) moment w.last event (slice_get w.sessions place)

-- the answer to a packet that came in at this moment
abbrev pub arrival_answer : ℕ → Arrival → World → Answer
arrival_answer moment arrival w = judged_as moment arrival (comes_to (table_of (configs_of w.sessions) w.pool) arrival) w
