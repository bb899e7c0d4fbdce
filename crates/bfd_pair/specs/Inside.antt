-- What the program keeps of the two sides, as the definitions see it.
use Rattle.std.specs.Prelude.{◌≡◌, ◌≤◌, ℕ, Some, List, [], ◌∷◌}
use Rattle.bfd_num.specs.Numbers.{greatest_tick}
use Rattle.bfd_packet.specs.declared.arrival.Arrival.{Arrival}
use Rattle.bfd_session.specs.declared.event.SessionConfig.{SessionConfig}
use Rattle.bfd_session.specs.Rows.{row_of}
use Rattle.bfd_pair.specs.declared.event.PairEvent.{PairEvent}
use Rattle.bfd_pair.specs.declared.peer.Peer.{Peer}
use Rattle.bfd_pair.specs.declared.peer.Way.{Way}
use Rattle.bfd_pair.specs.Run.{End, Both, arrival_to, pair_run}

-- a side as the definitions see it
abbrev pub seen : Peer → End
seen p = record { session = p.session; sent = p.sent.items }

abbrev pub both_of : Peer → Peer → ℕ → Both
both_of left right last = record { left = seen left; right = seen right; last = last }

-- a packet that comes this way
abbrev pub by_way : Way → List ℕ → Arrival
by_way way bytes = record {
  port = way.port;
  iface = way.iface;
  src = way.remote;
  sport = 49152;
  dst = way.local;
  ttl = 255;
  payload = bytes;
}

-- the session is point-to-point, the table has its one row, and packets reach it as its configuration says
pub record IsPeer (p : Peer) : Type 0 where
  pub table : p.table ≡ row_of p.session.config ∷ []
  pub way : (bytes : List ℕ) → arrival_to p.session.config bytes ≡ Some (by_way p.way bytes)

-- two sides and all that has happened to them
pub record Pairing : Type 0 where
  pub left : SessionConfig
  pub right : SessionConfig
  pub past : List PairEvent

abbrev pub pairing_of : Peer → Peer → List PairEvent → Pairing
pairing_of left right past = record { left = left.session.config; right = right.session.config; past = past }

-- the two sides are as they are after the past
pub record IsPair (left right : Peer) (last : ℕ) (past : List PairEvent) : Type 0 where
  pub left_peer : IsPeer left
  pub right_peer : IsPeer right
  pub within : last ≤ greatest_tick
  pub run : both_of left right last ≡ pair_run left.session.config right.session.config past
