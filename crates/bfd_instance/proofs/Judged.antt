-- A packet that came in is answered by the first of all tests that it fails.
use Rattle.bfd_instance.proofs.Common.{◌≡◌, ◌∙◌, ℕ, List, refl, sym, ap, Option, None, Some, Result, Ok, Err, Reflector, Running, Answer}
use Rattle.bfd_instance.proofs.Common.{Event, Out, World, configs_of, table_of, own, own_of, happens, carried_out, reflected, slice_get}
use Rattle.bfd_instance.proofs.Common.{arriving, turn_giving}
use Rattle.std.specs.Option.{option_or}
use Rattle.std.specs.Result.{result_err}
use Rattle.bfd_packet.specs.declared.arrival.Arrival.{Arrival}
use Rattle.bfd_packet.specs.declared.arrival.Datagram.{Datagram}
use Rattle.bfd_packet.specs.declared.discard.Test.{Test}
use Rattle.bfd_demux.specs.declared.row.Row.{Row}
use Rattle.bfd_demux.specs.declared.target.Target.{Target}
use Rattle.bfd_demux.specs.declared.target.Target.TheVariants.{Session, Echo, Reflector as ReflectorAt}
use Rattle.bfd_demux.specs.Selection.{first_table_failing, target_of}
use Rattle.bfd_sbfd.specs.Reflect.{reflect}
use Rattle.bfd_script.specs.declared.line.entries.Line.TheVariants.{Rx}
use Rattle.bfd_session.specs.declared.event.Event.TheVariants.{Packet, Returned}
use Rattle.bfd_session.specs.Alone.{effective}
use Rattle.bfd_session.specs.Arrivals.{coming_by, coming_to}
use Rattle.bfd_session.specs.Discards.{answer_by, first_own_failing, judging}
use Rattle.bfd_session.specs.Step.{reply}
use Rattle.bfd_session.proofs.Discarding.{discards_first, reply_first}
use Rattle.bfd_instance.specs.Judged.{answer_there, arrival_answer, judged_as, session_answer}

only_own : {failing : Option Test} (own : Option Test) {all : Option Test} → all ≡ option_or failing own → failing ≡ None → own ≡ all
only_own {failing} own is none = sym (is ∙ ap (λ f. option_or f own) none)

-- what a session answers where no test up to selection fails

packet_is : (rows : List Row) (arrival : Arrival) (eff : ℕ) (s : Running) → first_table_failing rows arrival ≡ None
    → reply eff (Packet arrival) s ≡ session_answer rows eff (Packet arrival) s
packet_is rows arrival eff s none =
    reply_first s eff arrival
    ∙ ap answer_by (only_own (first_own_failing s.config (judging eff s) arrival)
    (discards_first rows s.config (judging eff s) arrival) none)

return_is : (rows : List Row) (sequence eff : ℕ) (s : Running)
    → reply eff (Returned sequence) s ≡ session_answer rows eff (Returned sequence) s
unfolding reply
return_is rows sequence eff s = refl

own_answers : (rows : List Row) (place moment : ℕ) (event : Event) (w : World)
    → ((eff : ℕ) (s : Running) → reply eff event s ≡ session_answer rows eff event s) → (o : Option Running)
    → (own_of o place moment event w).outcome.answer ≡ answer_there rows moment w.last event o
own_answers rows place moment event w is None = refl
own_answers rows place moment event w is (Some s) = is (effective moment w.last s) s

own_is : (rows : List Row) (place moment : ℕ) (event : Event) (w : World)
    → ((eff : ℕ) (s : Running) → reply eff event s ≡ session_answer rows eff event s)
    → (own place moment event w).outcome.answer ≡ answer_there rows moment w.last event (slice_get w.sessions place)
unfolding own
own_is rows place moment event w is = own_answers rows place moment event w is (slice_get w.sessions place)

-- a reflector stands where one answers
reflects_as : (o : Option Reflector) (r : Result Datagram Test) (w : World)
    → (reflected o r w).outcome.answer ≡ answer_by (result_err r)
reflects_as o (Err test) w = refl
reflects_as None (Ok datagram) w = refl
reflects_as (Some reflector) (Ok datagram) w = refl

target_as : (moment : ℕ) (arrival : Arrival) (w : World) (o : Option Target)
    → first_table_failing (table_of (configs_of w.sessions) w.pool) arrival ≡ None
    → (carried_out (arriving moment arrival (coming_to o arrival)) w).outcome.answer ≡ judged_as moment arrival (coming_to o arrival) w
target_as moment arrival w None none = refl
target_as moment arrival w (Some (Session place)) none =
    let rows : List Row = table_of (configs_of w.sessions) w.pool in
    own_is rows place moment (Packet arrival) w (λ eff s. packet_is rows arrival eff s none)
target_as moment arrival w (Some (ReflectorAt place)) none = reflects_as (slice_get w.pool place) (reflect w.pool arrival) w
target_as moment arrival w (Some (Echo place sequence)) none =
    let rows : List Row = table_of (configs_of w.sessions) w.pool in
    own_is rows place moment (Returned sequence) w (λ eff s. return_is rows sequence eff s)

arrives_as : (moment : ℕ) (arrival : Arrival) (w : World) (f : Option Test) (o : Option Target)
    → first_table_failing (table_of (configs_of w.sessions) w.pool) arrival ≡ f
    → (carried_out (arriving moment arrival (coming_by f o arrival)) w).outcome.answer
    ≡ judged_as moment arrival (coming_by f o arrival) w
arrives_as moment arrival w (Some test) o is = refl
arrives_as moment arrival w None o is = target_as moment arrival w o is

-- a turn's answer is that of the tests
pub judged : (moment : ℕ) (arrival : Arrival) (w w2 : World) (items : List Out) (answer : Answer)
    → turn_giving w2 items answer ≡ happens (Rx moment arrival) w → answer ≡ arrival_answer moment arrival w
judged moment arrival w w2 items answer turn =
    let rows : List Row = table_of (configs_of w.sessions) w.pool in
    ap (λ t. t.outcome.answer) turn
    ∙ arrives_as moment arrival w (first_table_failing rows arrival) (target_of rows arrival) refl
