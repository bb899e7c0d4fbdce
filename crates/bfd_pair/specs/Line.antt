-- The line that sums up what two peers did.
use Rattle.std.specs.Prelude.{ℕ, ◌+◌, Bool, false, List, [], ◌∷◌, ◌++◌, length, count_by, codes}
use Rattle.std.specs.Fmt.{decimal}
use Rattle.bfd_packet.specs.declared.control.State.{State}
use Rattle.bfd_rules.specs.declared.outputs.Out.{Out}
use Rattle.bfd_rules.specs.declared.outputs.Out.TheVariants.{Changed, Sent}
use Rattle.bfd_rules.specs.Quantities.{is_up}
use Rattle.bfd_script.specs.Spelling.{line}
use Rattle.bfd_packet.specs.States.{state_name}
use Rattle.bfd_pair.specs.declared.event.PairEvent.{PairEvent}
use Rattle.bfd_pair.specs.declared.event.PairEvent.TheVariants.{Give}
use Rattle.bfd_pair.specs.declared.event.PairAnswer.{PairAnswer}
use Rattle.bfd_pair.specs.declared.event.PairAnswer.TheVariants.{Did, NoPacket}
use Rattle.bfd_pair.specs.Run.{Both, PairTurn, turn}
use Rattle.bfd_pair.specs.Schedule.{run_of_seed}

-- a packet was found, by the answer to a Give
abbrev pub found : PairAnswer → ℕ
found (Did answer) = 1
found (NoPacket count) = 0

-- the packets that an event gives: one if it is a Give that found its packet, even if a test discards it
abbrev pub given_in : PairEvent → PairTurn → ℕ
given_in (Give to moment number) t = found t.answer
given_in event t = 0

-- an output that reports a change to Up
abbrev pub is_rise : Out → Bool
is_rise (Changed discr old new diag) = is_up new
is_rise (Sent discr datagram) = false

-- how many such outputs there are in an event, of both sides
abbrev pub rises_in : PairEvent → PairTurn → ℕ
rises_in event t = count_by is_rise (t.left_items ++ t.right_items)

-- the sum of a number over events, by each event and its result
unfoldable pub total_over : (PairEvent → PairTurn → ℕ) → List PairEvent → Both → ℕ
total_over count [] w = 0
total_over count (event ∷ events) w = count event (turn event w) + total_over count events (turn event w).both

-- the same over all events of the two of a seed
abbrev pub total_of : (PairEvent → PairTurn → ℕ) → ℕ → List PairEvent → ℕ
total_of count seed past = total_over count past (run_of_seed seed [])

-- `pair EVENTS SENT GIVEN LEFT RIGHT UPS`
abbrev pub line_by : ℕ → ℕ → ℕ → State → State → ℕ → List ℕ
line_by events sent given left right rises =
    line (codes "pair" ∷ decimal events ∷ decimal sent ∷ decimal given ∷ state_name left ∷ state_name right ∷ decimal rises ∷ [])

-- how many packets both sides have sent
abbrev pub sent_in : Both → ℕ
sent_in w = length w.left.sent + length w.right.sent

-- the line of two sides of a seed after these events: how many events there were, how many packets both sides sent and were
-- given, the state of each, and how many changes to Up there were
abbrev pub line_of : ℕ → List PairEvent → Both → List ℕ
line_of seed past w =
    line_by (length past) (sent_in w) (total_of given_in seed past) w.left.session.vars.state w.right.session.vars.state
    (total_of rises_in seed past)

abbrev pub pair_line : ℕ → List PairEvent → List ℕ
pair_line seed past = line_of seed past (run_of_seed seed past)
