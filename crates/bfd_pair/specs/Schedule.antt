-- The schedule of two peers: a list of events that one number decides. It loses, repeats and reorders their packets.
use Rattle.std.specs.Prelude.{ℕ, zero, suc, ◌+◌, ◌*◌, ◌/◌, ◌%◌, ◌==◌, nat_lt, true, if◌then◌else◌, None, List, [], ◌∷◌, ◌++◌, length}
use Rattle.bfd_num.specs.Numbers.{next_j}
use Rattle.bfd_packet.specs.declared.arrival.Addr.{Addr}
use Rattle.bfd_packet.specs.declared.arrival.Addr.TheVariants.{V4}
use Rattle.bfd_rules.specs.declared.config.Config.{Config}
use Rattle.bfd_rules.specs.declared.config.Role.TheVariants.{Single}
use Rattle.bfd_session.specs.declared.event.SessionConfig.TheVariants.{PointToPoint}
use Rattle.bfd_pair.specs.declared.event.Side.{Side}
use Rattle.bfd_pair.specs.declared.event.Side.TheVariants.{Left, Right}
use Rattle.bfd_pair.specs.declared.event.PairEvent.{PairEvent}
use Rattle.bfd_pair.specs.declared.event.PairEvent.TheVariants.{Tick, Give}
use Rattle.bfd_pair.specs.Run.{Both, other, side_of, pair_run}

-- the addresses of the two, 10.0.0.1 and 10.0.0.2
abbrev pub first : Addr
first = V4 167772161

abbrev pub second : Addr
second = V4 167772162

-- a side: active, over interface 1, with intervals of 300,000 microseconds, Detect Mult 3, no Echo function and no keys
abbrev pub side : ℕ → Addr → Addr → ℕ → Config
side discr local remote seed = record {
  discr = discr;
  role = Single;
  iface = 1;
  local = local;
  remote = remote;
  active = true;
  tx = 300000;
  rx = 300000;
  mult = 3;
  echo = 0;
  seed = seed;
  keys = None;
}

abbrev pub left : ℕ → Config
left seed = side 1 first second seed

abbrev pub right : ℕ → Config
right seed = side 2 second first seed

-- the two of this seed after these events
abbrev pub run_of_seed : ℕ → List PairEvent → Both
run_of_seed seed past = pair_run (PointToPoint (left seed)) (PointToPoint (right seed)) past

-- the draw of an event, by its number from 1: each follows the one before, and the first the seed
unfoldable pub draw : ℕ → ℕ → ℕ
draw seed zero = seed
draw seed (suc e) = next_j (draw seed e)

-- the number of a packet among so many, by the draw's low 16 bits; 1 if there is none
abbrev pub packet_by : ℕ → ℕ → ℕ
packet_by j count = if count == 0 then 1 else 1 + (j % 65536) % count

-- at the moment of the tick of the event's number, a side is given a packet of all that the other side has sent
abbrev pub giving : Side → ℕ → ℕ → Both → PairEvent
giving to e j w = Give to (1000 * e) (packet_by j (length (side_of (other to) w).sent))

-- the two bits above those choose
abbrev pub choice : ℕ → ℕ
choice j = (j / 65536) % 4

-- the event of this number and draw: by two choices of four the tick of its number, and by one a packet to each side
abbrev pub event_by : ℕ → ℕ → Both → PairEvent
event_by e j w =
    if nat_lt (choice j) 2 then Tick e
    else if choice j == 2 then giving Left e j w
    else giving Right e j w

-- the first so many events of the seed: each is chosen for the two as the events before it have left them
unfoldable pub schedule : ℕ → ℕ → List PairEvent
schedule seed zero = []
schedule seed (suc e) = schedule seed e ++ event_by (suc e) (draw seed (suc e)) (run_of_seed seed (schedule seed e)) ∷ []
