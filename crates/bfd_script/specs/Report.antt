-- The report: what a run reports of its events, as text.
use Rattle.std.specs.Prelude.{ℕ, ◌+◌, List, [], ◌∷◌, ◌++◌, length, sum_by, codes}
use Rattle.std.specs.List.{flat_map}
use Rattle.std.specs.Fmt.{decimal}
use Rattle.bfd_packet.specs.States.{state_name}
use Rattle.bfd_packet.specs.TestNames.{name_of}
use Rattle.bfd_rules.specs.Names.{refusal_name}
use Rattle.bfd_rules.specs.declared.outputs.Out.{Out}
use Rattle.bfd_rules.specs.declared.outputs.Out.TheVariants.{Changed, Sent}
use Rattle.bfd_session.specs.declared.event.Answer.{Answer}
use Rattle.bfd_session.specs.declared.event.Answer.TheVariants.{Handled, Ticked, Dropped, Refused, Shown as Showing}
use Rattle.bfd_session.specs.Alone.{Outcome}
use Rattle.bfd_script.specs.Spelling.{line, hex_field}

-- an output of the event of this number: `N state DISCR OLD NEW DIAG`, or `N tx DISCR HEX`
abbrev pub item_line : ℕ → Out → List ℕ
item_line number (Changed discr before after diag) =
    line (decimal number ∷ codes "state" ∷ decimal discr ∷ state_name before ∷ state_name after ∷ decimal diag ∷ [])
item_line number (Sent discr datagram) =
    line (decimal number ∷ codes "tx" ∷ decimal discr ∷ hex_field datagram.bytes ∷ [])

-- its answer: `N drop TEST`, `N refuse CAUSE`, or
-- `N show DISCR STATE DIAG RSTATE RDISCR ADVTX USEDTX USEDRX DETECT POLL`; other answers have no line
abbrev pub answer_line : ℕ → Answer → List ℕ
answer_line number Handled = []
answer_line number Ticked = []
answer_line number (Dropped test) = line (decimal number ∷ codes "drop" ∷ name_of test ∷ [])
answer_line number (Refused refusal) = line (decimal number ∷ codes "refuse" ∷ refusal_name refusal ∷ [])
answer_line number (Showing s) =
    line (decimal number ∷ codes "show" ∷ decimal s.discr ∷ state_name s.state ∷ decimal s.diag
    ∷ state_name s.remote_state ∷ decimal s.remote_discr ∷ decimal s.adv_tx ∷ decimal s.used_tx
    ∷ decimal s.used_rx ∷ decimal s.detect ∷ decimal s.poll ∷ [])

-- the lines of the event of this number: first its outputs, then its answer
abbrev pub event_lines : ℕ → Outcome → List ℕ
event_lines number outcome = flat_map (item_line number) outcome.items ++ answer_line number outcome.answer

-- the lines of all events from this number on
abbrev pub lines_from : ℕ → List Outcome → List ℕ
lines_from number [] = []
lines_from number (outcome ∷ outcomes) = event_lines number outcome ++ lines_from (number + 1) outcomes

-- how many packets an output sends
abbrev pub packets_sent_by : Out → ℕ
packets_sent_by (Changed discr before after diag) = 0
packets_sent_by (Sent discr datagram) = 1

-- how many packets were sent in an event
abbrev pub packets_sent : Outcome → ℕ
packets_sent outcome = sum_by packets_sent_by outcome.items

-- how many packets an answer says were dropped
abbrev pub dropped_by : Answer → ℕ
dropped_by (Dropped test) = 1
dropped_by answer = 0

-- how many packets were dropped in an event
abbrev pub dropped : Outcome → ℕ
dropped outcome = dropped_by outcome.answer

-- `done EVENTS TXS DROPS`
abbrev pub done_line : ℕ → ℕ → ℕ → List ℕ
done_line events txs drops = line (codes "done" ∷ decimal events ∷ decimal txs ∷ decimal drops ∷ [])

-- the report of a run whose events have these outcomes, one after another
abbrev pub report : List Outcome → List ℕ
report outcomes = lines_from 1 outcomes ++ done_line (length outcomes) (sum_by packets_sent outcomes) (sum_by dropped outcomes)
