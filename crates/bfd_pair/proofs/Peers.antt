-- A side of the program as a side of the definitions.
use Rattle.bfd_pair.proofs.Common.{◌≡◌, ◌≤◌, ◌<◌, ◌-◌, ◌++◌, ℕ, List, [], ◌∷◌, length, take, drop, ap, arith, None, Some, moment_bound}
use Rattle.bfd_pair.proofs.Common.{Arrival, Config, Out, SessionConfig, PointToPoint, Packet, Running, IsFit, IsSound, CanTake, sound_by}
use Rattle.bfd_pair.proofs.Common.{started}
use Rattle.bfd_pair.proofs.Common.{Peer, arrival_to, packets_among, arrives, comes, seen, by_way, IsPeer, first_header_failing}
use Rattle.bfd_pair.proofs.Common.{first_table_failing, row_of}
use Rattle.std.proofs.lemmas.List.{take_all, length-drop}
use Rattle.std.proofs.Math.Seq.{drop-append_seam}
use Rattle.bfd_demux.specs.Rows.{build_fault}
use Rattle.bfd_session.proofs.Tables.{no_fault as no_faults}
use Rattle.bfd_pair.proofs.Points.{IsPoint, way_point}
use Rattle.bfd_pair.proofs.Packets.{packets_few}
use Rattle.bfd_pair.proofs.Naming.{takes}

-- a table of one row has no fault
pub no_fault : (config : SessionConfig) → IsFit config → build_fault (row_of config ∷ []) ≡ None
no_fault config fit = no_faults (config ∷ []) (tt, tt) (tt, tt) (fit, tt) (omega arith)

-- a side at the start
pub opened_peer : (p : Peer) {config : Config} → p.session ≡ started (PointToPoint config) → p.table ≡ row_of (PointToPoint config) ∷ []
    → ((bytes : List ℕ) → arrival_to (PointToPoint config) bytes ≡ Some (by_way p.way bytes)) → IsPeer p
opened_peer p is table way = record {
  table = cc;
  way = λ bytes. cc (way bytes);
}

-- no more packets are kept than there were outputs since
pub few : (from : ℕ) (items : List Out) → length (packets_among (drop from items)) ≤ length items - from
few from items = omega (arith, packets_few (drop from items), length-drop from items)

-- what was emitted since
pub put_since : (from : ℕ) (before more after : List Out) → after ≡ before ++ more → from ≡ length before → drop from after ≡ more
put_since from before more after e at = cc (ap (λ (k : ℕ). drop k after) at, drop-append_seam before more)

-- a part up to the end
pub to_the_end : (from : ℕ) (items : List Out) → take (length items - from) (drop from items) ≡ drop from items
to_the_end from items = take_all (length items - from) (drop from items) (omega (arith, length-drop from items))

-- a packet is kept whole
pub whole : (bytes : List ℕ) → length bytes ≤ 52 → take 256 bytes ≡ bytes
whole bytes few = take_all 256 bytes (omega arith)

pub takes_packet : (p : Peer) (arrival : Arrival) → IsPeer p → arrival ≡ by_way p.way arrival.payload
    → first_header_failing arrival ≡ None → first_table_failing p.table arrival ≡ None → CanTake p.session.config (Packet arrival)
takes_packet p arrival peer is header none = takes p.session.config (cc (peer.way arrival.payload)) header (rw (← peer.table) none)

-- a packet reaches a side as it arrives
pub comes_by : (p : Peer) (moment last : ℕ) (arrival : Arrival) (bytes : List ℕ) → IsPeer p → arrival ≡ by_way p.way bytes
    → comes (arrival_to p.session.config bytes) moment last (seen p) ≡ arrives moment last arrival (seen p)
comes_by p moment last arrival bytes peer is = cc (peer.way bytes)

-- the last own event of a side was at a moment
at_by : (config : SessionConfig) (s : Running) → IsPoint config → sound_by config s → s.vars.at < moment_bound
at_by (PointToPoint c) s p sound = sound.vars.steady.plain.at_below
at_by config s p sound = absurd p

pub at_below : (p : Peer) → IsPeer p → IsSound p.session → p.session.vars.at < moment_bound
at_below p peer sound = at_by p.session.config p.session (way_point p.session.config [] (peer.way [])) sound
