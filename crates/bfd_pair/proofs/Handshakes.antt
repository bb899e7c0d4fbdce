-- A side goes to Up only by a handshake.
use Rattle.bfd_pair.proofs.Common.{◌≡◌, ◌⊎◌, inl, inr, ◌++◌, ◌*◌, max, ℕ, Bool, true, false, List, [], ◌∷◌, length, refl, Option, None}
use Rattle.bfd_pair.proofs.Common.{Some, both_ways, Arrival, Test, fields_of, is_init_or_up, Config, is_up, SessionConfig, PointToPoint}
use Rattle.bfd_pair.proofs.Common.{discr_of}
use Rattle.bfd_pair.proofs.Common.{Side, Left, Right, PairEvent, Tick, Give, Order, End, Both, Move, other, side_of, items_of, packet_at}
use Rattle.bfd_pair.proofs.Common.{arrival_to, screened, judged_move, comes, given_packet, pair_run, turn, IsHandshake, reports_up}
use Rattle.bfd_pair.proofs.Common.{is_up_after, effective}
use Rattle.bfd_pair.proofs.Points.{IsPoint, way_point, run_point}
use Rattle.bfd_pair.proofs.Calm.{tick_unreported, tick_low, order_unreported, order_low, packet_unreported, packet_low}
use Rattle.bfd_pair.proofs.Naming.{names, way_payload}
use Rattle.bfd_pair.proofs.Hearing.{run_more, packet_heard}

-- the event gives the side a packet in Init or Up that names it
record Rises (w : Both) (event : PairEvent) (side : Side) : Type 0 where
  moment : ℕ
  number : ℕ
  gives : event ≡ Give side moment number
  bytes : List ℕ
  sent : packet_at number (side_of (other side) w).sent ≡ Some bytes
  state : is_init_or_up (fields_of bytes).state ≡ true
  your : (fields_of bytes).your ≡ discr_of (side_of side w).session.config

-- a side reports no change to Up, and is Up only if it was
record Stays (e : End) (m : Move) : Type 0 where
  unreported : reports_up m.items ≡ false
  low : is_up m.end.session.vars.state ≡ true → is_up e.session.vars.state ≡ true

by_test : (w : Both) (side : Side) (moment number : ℕ) {bytes : List ℕ} {arrival : Arrival} (failing : Option Test) (warm : Bool)
    → packet_at number (side_of (other side) w).sent ≡ Some bytes → arrival_to (side_of side w).session.config bytes ≡ Some arrival
    → screened (side_of side w).session.config arrival ≡ failing → is_init_or_up (fields_of bytes).state ≡ warm
    → Rises w (Give side moment number) side ⊎ Stays (side_of side w) (judged_move failing moment w.last arrival (side_of side w))
by_test w side moment number (Some test) warm sent way is state = inr (record { unreported = refl; low = λ up. up })
by_test w side moment number {bytes} None true sent way is state = inl (record {
  moment = moment;
  number = number;
  gives = refl;
  bytes = bytes;
  sent = sent;
  state = state;
  your = names (side_of side w).session.config bytes way state is;
})
by_test w side moment number {bytes} {arrival} None false sent way is state =
    let e : End = side_of side w in
    let p : IsPoint e.session.config = way_point e.session.config bytes way in
    let low : is_init_or_up (fields_of arrival.payload).state ≡ false =
    cc (way_payload e.session.config bytes way) in
    inr (record {
      unreported = packet_unreported e.session (effective moment w.last e.session) arrival p low;
      low = packet_low e.session (effective moment w.last e.session) arrival p low;
    })

by_arrival : (w : Both) (side : Side) (moment number : ℕ) {bytes : List ℕ} (arrival : Option Arrival)
    → packet_at number (side_of (other side) w).sent ≡ Some bytes → arrival_to (side_of side w).session.config bytes ≡ arrival
    → Rises w (Give side moment number) side ⊎ Stays (side_of side w) (comes arrival moment w.last (side_of side w))
by_arrival w side moment number None sent way = inr (record { unreported = refl; low = λ up. up })
by_arrival w side moment number (Some arrival) sent way = by_test w side moment number _ _ sent way refl refl

by_packet : (w : Both) (side : Side) (moment number : ℕ) (found : Option (List ℕ)) → packet_at number (side_of (other side) w).sent ≡ found
    → Rises w (Give side moment number) side ⊎ Stays (side_of side w)
    (given_packet found (length (side_of (other side) w).sent) moment w.last (side_of side w))
by_packet w side moment number None is = inr (record { unreported = refl; low = λ up. up })
by_packet w side moment number (Some bytes) is = by_arrival w side moment number _ is refl

-- what an event is to one side
abbrev part : Side → PairEvent → Both → Move
part side event w = record { end = side_of side (turn event w).both; items = items_of side (turn event w); answer = (turn event w).answer }

ticks : (w : Both) (t : ℕ) (side : Side) → IsPoint (side_of side w).session.config → Stays (side_of side w) (part side (Tick t) w)
ticks w t Left p = record {
  unreported = tick_unreported w.left.session (1000 * max w.last t) (max (1000 * max w.last t) w.left.session.vars.at) p;
  low = tick_low w.left.session (1000 * max w.last t) (max (1000 * max w.last t) w.left.session.vars.at) p;
}
ticks w t Right p = record {
  unreported = tick_unreported w.right.session (1000 * max w.last t) (max (1000 * max w.last t) w.right.session.vars.at) p;
  low = tick_low w.right.session (1000 * max w.last t) (max (1000 * max w.last t) w.right.session.vars.at) p;
}

rises_or_stays : (w : Both) (event : PairEvent) (side : Side) → IsPoint (side_of side w).session.config
    → Rises w event side ⊎ Stays (side_of side w) (part side event w)
rises_or_stays w (Tick t) side p = inr (ticks w t side p)
rises_or_stays w (Give Left moment number) Left p = by_packet w Left moment number _ refl
rises_or_stays w (Give Right moment number) Right p = by_packet w Right moment number _ refl
rises_or_stays w (Order Left moment cmd) Left p = inr (record {
  unreported = order_unreported w.left.session (effective moment w.last w.left.session) cmd p;
  low = order_low w.left.session (effective moment w.last w.left.session) cmd p;
})
rises_or_stays w (Order Right moment cmd) Right p = inr (record {
  unreported = order_unreported w.right.session (effective moment w.last w.right.session) cmd p;
  low = order_low w.right.session (effective moment w.last w.right.session) cmd p;
})
rises_or_stays w event side p = inr (record { unreported = refl; low = λ up. up })

module _ (left right : SessionConfig) (l : IsPoint left) (r : IsPoint right) where
  shakes : (past : List PairEvent) {event : PairEvent} {side : Side} → Rises (pair_run left right past) event side
      → IsHandshake left right side event past
  shakes past {side} rise =
      let h =
      packet_heard left right l r (other side) past rise.number rise.sent rise.state in
      record {
        moment = rise.moment;
        number = rise.number;
        gives = rise.gives;
        bytes = rise.bytes;
        sent = rise.sent;
        state = rise.state;
        your = rise.your;
        heard = h.0;
        answers = h.1;
      }

  pub handshakes : (past : List PairEvent) (event : PairEvent) (side : Side)
      → reports_up (items_of side (turn event (pair_run left right past))) ≡ true → IsHandshake left right side event past
  handshakes past event side up = elim (rises_or_stays (pair_run left right past) event side (run_point left right l r past side)) [
    | inl rises ↦ shakes past rises
    | inr stays ↦ absurd (both_ways _ stays.unreported up)
  ]

  pub comes_up : (past : List PairEvent) (event : PairEvent) (side : Side)
      → is_up_after left right side past ≡ false → is_up_after left right side (past ++ event ∷ []) ≡ true
      → IsHandshake left right side event past
  comes_up past event side low up = elim (rises_or_stays (pair_run left right past) event side (run_point left right l r past side)) [
    | inl rises ↦ shakes past rises
    | inr stays ↦ absurd (both_ways _ low (stays.low (cc (run_more left right past event))))
  ]

-- the same of two point-to-point sessions

pub pair_handshakes : (left right : Config) (past : List PairEvent) (event : PairEvent) (side : Side)
    → reports_up (items_of side (turn event (pair_run (PointToPoint left) (PointToPoint right) past))) ≡ true
    → IsHandshake (PointToPoint left) (PointToPoint right) side event past
pair_handshakes left right past event side up = handshakes (PointToPoint left) (PointToPoint right) tt tt past event side up

pub pair_comes_up : (left right : Config) (past : List PairEvent) (event : PairEvent) (side : Side)
    → is_up_after (PointToPoint left) (PointToPoint right) side past ≡ false
    → is_up_after (PointToPoint left) (PointToPoint right) side (past ++ event ∷ []) ≡ true
    → IsHandshake (PointToPoint left) (PointToPoint right) side event past
pair_comes_up left right past event side low up = comes_up (PointToPoint left) (PointToPoint right) tt tt past event side low up
