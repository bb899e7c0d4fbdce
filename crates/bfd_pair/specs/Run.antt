-- The pair run: two sessions and all that each has sent, event by event.
use Rattle.std.specs.Prelude.{ℕ, ◌-◌, ◌==◌, max, if◌then◌else◌, Option, None, Some, List, [], ◌∷◌, ◌++◌, length, slice_get}
use Rattle.bfd_packet.specs.declared.arrival.Arrival.{Arrival}
use Rattle.bfd_packet.specs.declared.discard.Test.{Test}
use Rattle.bfd_packet.specs.declared.discard.Test.TheVariants.{NoSession}
use Rattle.bfd_rules.specs.declared.outputs.Out.{Out}
use Rattle.bfd_rules.specs.declared.outputs.Out.TheVariants.{Changed, Sent}
use Rattle.bfd_p2p.specs.Port.{port_of}
use Rattle.bfd_session.specs.declared.event.SessionConfig.{SessionConfig}
use Rattle.bfd_session.specs.declared.event.SessionConfig.TheVariants.{PointToPoint}
use Rattle.bfd_session.specs.declared.event.Event.{Event}
use Rattle.bfd_session.specs.declared.event.Event.TheVariants.{Packet, Command}
use Rattle.bfd_session.specs.declared.event.Answer.TheVariants.{Ticked, Dropped}
use Rattle.bfd_session.specs.Kinds.{Running}
use Rattle.bfd_session.specs.Step.{started}
use Rattle.bfd_session.specs.Alone.{stepped, step_outcome, ticked, tick_items}
use Rattle.bfd_session.specs.Rows.{row_of}
use Rattle.bfd_demux.specs.Selection.{first_table_failing}
use Rattle.bfd_pair.specs.declared.event.Side.{Side}
use Rattle.bfd_pair.specs.declared.event.Side.TheVariants.{Left, Right}
use Rattle.bfd_pair.specs.declared.event.PairEvent.{PairEvent}
use Rattle.bfd_pair.specs.declared.event.PairEvent.TheVariants.{Tick, Give, Order}
use Rattle.bfd_pair.specs.declared.event.PairAnswer.{PairAnswer}
use Rattle.bfd_pair.specs.declared.event.PairAnswer.TheVariants.{Did, NoPacket}

-- one side: its session, and the packets that it has sent, in their order, those of its Echo function too
pub record End : Type 0 where
  pub session : Running
  pub sent : List (List ℕ)

-- both sides, and the greatest tick so far
pub record Both : Type 0 where
  pub left : End
  pub right : End
  pub last : ℕ

-- one side after an event, what that side emits in it, and the answer
pub record Move : Type 0 where
  pub end : End
  pub items : List Out
  pub answer : PairAnswer

-- both sides after an event, what each emits in it, and the answer
pub record PairTurn : Type 0 where
  pub both : Both
  pub left_items : List Out
  pub right_items : List Out
  pub answer : PairAnswer

abbrev pub other : Side → Side
other Left = Right
other Right = Left

abbrev pub side_of : Side → Both → End
side_of Left w = w.left
side_of Right w = w.right

abbrev pub items_of : Side → PairTurn → List Out
items_of Left turn = turn.left_items
items_of Right turn = turn.right_items

-- the packets among outputs
abbrev pub packets_among : List Out → List (List ℕ)
packets_among [] = []
packets_among (Changed discr old new diag ∷ items) = packets_among items
packets_among (Sent discr datagram ∷ items) = datagram.bytes ∷ packets_among items

-- the packet of a number, the first being 1
abbrev pub packet_at : ℕ → List (List ℕ) → Option (List ℕ)
packet_at number sent = if number == 0 then None else slice_get sent (number - 1)

-- a packet on its way to a session of this configuration: to its port and its interface, from the peer's address to its own,
-- with the TTL that it was sent with (RFC 5881 sections 4 and 5, RFC 5883 section 5); the two are point-to-point sessions, and
-- to one of another kind nothing is on its way
abbrev pub arrival_to : SessionConfig → List ℕ → Option Arrival
arrival_to (PointToPoint c) bytes = Some (record {
  port = port_of c.role;
  iface = c.iface;
  src = c.remote;
  sport = 49152;
  dst = c.local;
  ttl = 255;
  payload = bytes;
})
arrival_to _ bytes = None

-- the first test that an arrival fails up to selection, over the one row of that session; one that fails none names that row
abbrev pub screened : SessionConfig → Arrival → Option Test
screened config arrival = first_table_failing (row_of config ∷ []) arrival

-- the packets that an event emits have been sent
abbrev pub sending : Running → List Out → End → End
sending s items e = record { session = s; sent = e.sent ++ packets_among items }

-- an own event of a side
abbrev pub own_move : ℕ → ℕ → Event → End → Move
own_move moment last event e = record {
  end = sending (stepped moment last event e.session) (step_outcome moment last event e.session).items e;
  items = (step_outcome moment last event e.session).items;
  answer = Did (step_outcome moment last event e.session).answer;
}

-- a side that nothing happens to
abbrev pub side_rests : PairAnswer → End → Move
side_rests answer e = record { end = e; items = []; answer = answer }

-- a packet arrives: it is discarded by the first test that fails, or is an own event
abbrev pub judged_move : Option Test → ℕ → ℕ → Arrival → End → Move
judged_move (Some test) moment last arrival e = side_rests (Did (Dropped test)) e
judged_move None moment last arrival e = own_move moment last (Packet arrival) e

abbrev pub arrives : ℕ → ℕ → Arrival → End → Move
arrives moment last arrival e = judged_move (screened e.session.config arrival) moment last arrival e

-- a packet reaches a side
abbrev pub comes : Option Arrival → ℕ → ℕ → End → Move
comes None moment last e = side_rests (Did (Dropped NoSession)) e
comes (Some arrival) moment last e = arrives moment last arrival e

-- a side is given a packet, or there is none among so many
abbrev pub given_packet : Option (List ℕ) → ℕ → ℕ → ℕ → End → Move
given_packet None count moment last e = side_rests (NoPacket count) e
given_packet (Some bytes) count moment last e = comes (arrival_to e.session.config bytes) moment last e

-- a side is given the packet of a number among those that were sent
abbrev pub gives : ℕ → List (List ℕ) → ℕ → ℕ → End → Move
gives number sent moment last e = given_packet (packet_at number sent) (length sent) moment last e

-- a tick of a side
abbrev pub ticking : ℕ → End → End
ticking last e = sending (ticked last e.session) (tick_items last e.session) e

-- one side moves, and the other rests
abbrev pub side_moves : Side → Move → Both → PairTurn
side_moves Left m w = record { both = record w { left = m.end }; left_items = m.items; right_items = []; answer = m.answer }
side_moves Right m w = record { both = record w { right = m.end }; left_items = []; right_items = m.items; answer = m.answer }

-- a tick of both, with one last tick
abbrev pub both_tick : ℕ → Both → PairTurn
both_tick last w = record {
  both = record { left = ticking last w.left; right = ticking last w.right; last = last };
  left_items = tick_items last w.left.session;
  right_items = tick_items last w.right.session;
  answer = Did Ticked;
}

-- one event
abbrev pub turn : PairEvent → Both → PairTurn
turn (Tick t) w = both_tick (max w.last t) w
turn (Give to moment number) w = side_moves to (gives number (side_of (other to) w).sent moment w.last (side_of to w)) w
turn (Order side moment cmd) w = side_moves side (own_move moment w.last (Command cmd) (side_of side w)) w

-- the events one after another
abbrev pub both_after : List PairEvent → Both → Both
both_after [] w = w
both_after (event ∷ events) w = both_after events (turn event w).both

-- a side at the start
abbrev pub opened_side : SessionConfig → End
opened_side config = record { session = started config; sent = [] }

-- both sides after these events
unfoldable pub pair_run : SessionConfig → SessionConfig → List PairEvent → Both
pair_run left right events = both_after events (record { left = opened_side left; right = opened_side right; last = 0 })
